-- How `both` may end, and what it leaves.
use Rattle.std.specs.Prelude.{◌≡◌, ◌⊎◌, ◌++◌, ℕ, List, Bool, IsTrue, Some}
use Rattle.agm_shelf.specs.Shelf.{Contents, IsFrontOrOld, TakesFront}
use Rattle.cell_library.specs.Judged.{PlainCell}
use Rattle.agema_texts.specs.Comparing.{Compares, CanCompare, IsComparable, IsUncompared}
use Rattle.agema_texts.specs.Masks.{IsWithin, IsUnmasked}
use Rattle.agema_answers.specs.declared.ended.Ended.{Ended}
use Rattle.agema_answers.specs.declared.ended.Ended.TheVariants.{Done, Usage, ReadFault, WriteFault, PrintFault, Memory, Refused}
use Rattle.agema_answers.specs.declared.refusal.Refusal.TheVariants.{TooLong, BadStimulus}
use Rattle.agema_core.specs.Words.{Comparing}
use Rattle.agema_core.specs.Found.{Counts, Found, Holds, Told, Fails, ReadFails, IsTooLong, HoldsBoth, ToldBoth}

-- the netlist can be masked
abbrev pub IsMaskable : Comparing → List PlainCell → List ℕ → Type 0
IsMaskable c cells text = IsWithin cells text c.masking.order

-- it is, and STIM drives it
abbrev pub IsDriven : Comparing → Found → List PlainCell → List ℕ → Type 0
IsDriven c f cells text = Holds (f.holds c.stimulus) (IsComparable cells text c.masking.order)

-- LIB, NET and STIM can be run side by side
abbrev pub ComparingFits : Comparing → Found → List PlainCell → List ℕ → Type 0
ComparingFits c f cells text = Holds (f.holds c.stimulus) (CanCompare cells text c.masking.order)

-- this is true of LIB and NET
abbrev pub ToldNet : Comparing → Found → (List PlainCell → List ℕ → Type 0) → Type 0
ToldNet c f Fact = ToldBoth c.masking.library c.masking.net f Fact

-- How `both` may end that has come to the netlist: there, or behind it at the stimulus, or at the writing or the printing.
abbrev pub IsComparedEnd : Comparing → Found → (before now : Counts) → Ended → Type 0
IsComparedEnd c f before now Done = ToldNet c f (IsDriven c f)
IsComparedEnd c f before now Usage = Prim.⊥
IsComparedEnd c f before now (ReadFault file) =
    ((file ≡ c.masking.net) × ReadFails f.sound (f.holds c.masking.net) before.reads now.reads)
    ⊎ (ToldNet c f (IsMaskable c) × (file ≡ c.stimulus) × ReadFails f.sound (f.holds c.stimulus) before.reads now.reads)
IsComparedEnd c f before now (WriteFault file) = ToldNet c f (IsDriven c f) × (file ≡ c.masking.out) × Fails f.sound before.writes now.writes
IsComparedEnd c f before now PrintFault = ToldNet c f (IsDriven c f) × Fails f.prints before.prints now.prints
IsComparedEnd c f before now Memory = Unit {0}
IsComparedEnd c f before now (Refused (TooLong file)) =
    ((file ≡ c.masking.net) × Told f.tells (f.holds c.masking.net) IsTooLong)
    ⊎ (ToldNet c f (IsMaskable c) × (file ≡ c.stimulus) × Told f.tells (f.holds c.stimulus) IsTooLong)
IsComparedEnd c f before now (Refused (BadStimulus cause stream step)) =
    ToldNet c f (λ cells text. Holds (f.holds c.stimulus) (λ stimulus. IsUncompared cells text c.masking.order stimulus (BadStimulus cause stream step)))
IsComparedEnd c f before now (Refused refusal) = ToldNet c f (λ cells text. IsUnmasked cells text c.masking.order refusal)

-- how the writing of OUT and the printing may end
abbrev pub IsSending : List ℕ → (sound prints : Bool) → (writes_before writes_now prints_before prints_now : ℕ) → Ended → Type 0
IsSending out sound prints w0 w1 p0 p1 Done = Unit {0}
IsSending out sound prints w0 w1 p0 p1 (WriteFault file) = (file ≡ out) × Fails sound w0 w1
IsSending out sound prints w0 w1 p0 p1 PrintFault = Fails prints p0 p1
IsSending out sound prints w0 w1 p0 p1 Memory = Unit {0}
IsSending out sound prints w0 w1 p0 p1 _ = Prim.⊥

-- What is left of the texts of OUT and of the lines after each answer, of OUT where the shelf tells its contents, and of the lines where the
-- sink tells what it takes.
abbrev pub Sends : (out net lines : List ℕ) → Bool → Contents → Contents → Bool → (before now : List ℕ) → Ended → Type 0
Sends out net lines told old new heard before now Done = (IsTrue told → new out ≡ Some net) × (IsTrue heard → now ≡ before ++ lines)
Sends out net lines told old new heard before now PrintFault = (IsTrue told → new out ≡ Some net) × (IsTrue heard → TakesFront lines before now)
Sends out net lines told old new heard before now (WriteFault file) = (IsTrue told → IsFrontOrOld net (old out) (new out)) × (now ≡ before)
Sends out net lines told old new heard before now Memory =
    (IsTrue told → IsFrontOrOld net (old out) (new out)) × (IsTrue heard → TakesFront lines before now)
Sends out net lines told old new heard before now _ = Prim.⊥

-- what is left of the text of OUT and of the lines, where the shelf tells what it held
pub record LeavesCompared (c : Comparing) (told : Bool) (old new : Contents) (heard : Bool) (before now : List ℕ) (ended : Ended) : Type 0 where
  pub net : List ℕ
  pub lines : List ℕ
  pub compares : IsTrue told
      → HoldsBoth c.masking.library c.masking.net old (λ cells text. Holds (old c.stimulus) (λ stimulus. Compares cells text c.masking.order stimulus c.seed net lines))
  pub sends : Sends c.masking.out net lines told old new heard before now ended
