-- What each answer of a run leaves.
use Rattle.std.specs.Prelude.{◌≡◌, ◌≢◌, ◌⊎◌, ◌++◌, ℕ, List, Bool, IsTrue, Some}
use Rattle.agm_shelf.specs.Shelf.{Contents, AllStay, IsFrontOrOld, TakesFront}
use Rattle.agm_shelf.specs.Shelf as shelf
use Rattle.agema_texts.specs.Masks.{Masks}
use Rattle.agema_texts.specs.Auditing.{Audits}
use Rattle.agema_texts.specs.Probing.{Cones}
use Rattle.agema_texts.specs.Reported.{Reports}
use Rattle.agema_texts.specs.Sims.{Sims}
use Rattle.agema_answers.specs.declared.ended.Ended.{Ended}
use Rattle.agema_answers.specs.declared.ended.Ended.TheVariants.{Done, Usage, ReadFault, WriteFault, PrintFault, Memory, Refused}
use Rattle.agema_core.specs.Compared.{LeavesCompared}
use Rattle.agema_core.specs.Words.{Mask, Sim, Reporting, Auditing, Probing, Comparing, Request, mask, sim, reporting, auditing, probing, comparing}
use Rattle.agema_core.specs.Found.{Fails, HoldsBoth, Holds}
use Rattle.agema_core.specs.Answer.{report_name}

-- how the writing of one file may fail
abbrev pub IsWriteEnd : List ℕ → (sound : Bool) → (before now : ℕ) → Ended → Type 0
IsWriteEnd name sound before now (WriteFault file) = (file ≡ name) × Fails sound before now
IsWriteEnd name sound before now Memory = Unit {0}
IsWriteEnd name sound before now _ = Prim.⊥

-- how the writing of both files may fail
abbrev pub IsWritesEnd : List ℕ → (sound : Bool) → (before now : ℕ) → Ended → Type 0
IsWritesEnd out sound before now (WriteFault file) = ((file ≡ out) ⊎ (file ≡ report_name out)) × Fails sound before now
IsWritesEnd out sound before now Memory = Unit {0}
IsWritesEnd out sound before now _ = Prim.⊥

-- how the writing and the printing may end
abbrev pub IsDelivery : List ℕ → (sound prints : Bool) → (writes_before writes_now prints_before prints_now : ℕ) → Ended → Type 0
IsDelivery out sound prints w0 w1 p0 p1 Done = Unit {0}
IsDelivery out sound prints w0 w1 p0 p1 (WriteFault file) = ((file ≡ out) ⊎ (file ≡ report_name out)) × Fails sound w0 w1
IsDelivery out sound prints w0 w1 p0 p1 PrintFault = Fails prints p0 p1
IsDelivery out sound prints w0 w1 p0 p1 Memory = Unit {0}
IsDelivery out sound prints w0 w1 p0 p1 _ = Prim.⊥

-- names other than the two outputs hold what they held
abbrev pub OthersKeep : List ℕ → Contents → Contents → Type 0
OthersKeep out old new = (name : List ℕ) → name ≢ out → name ≢ report_name out → new name ≡ old name

-- both outputs hold their whole texts
pub record LeftWhole (out net report : List ℕ) (new : Contents) : Type 0 where
  pub net_held : new out ≡ Some net
  pub report_held : new (report_name out) ≡ Some report

-- each output holds what it held or some first bytes of its text, and the report has changed only where the netlist is whole
pub record LeftPart (out net report : List ℕ) (old new : Contents) : Type 0 where
  pub net_left : IsFrontOrOld net (old out) (new out)
  pub report_left : IsFrontOrOld report (old (report_name out)) (new (report_name out))
  pub in_order : (new (report_name out) ≡ old (report_name out)) ⊎ (new out ≡ Some net)

-- What is left of the three texts after each answer, of the files where the shelf tells its contents, and of the line where the sink
-- tells what it takes.
abbrev pub Leaves : (out net report line : List ℕ) → Bool → Contents → Contents → Bool → (before now : List ℕ) → Ended → Type 0
Leaves out net report line told old new heard before now Done = (IsTrue told → LeftWhole out net report new) × (IsTrue heard → now ≡ before ++ line)
Leaves out net report line told old new heard before now PrintFault = (IsTrue told → LeftWhole out net report new) × (IsTrue heard → TakesFront line before now)
Leaves out net report line told old new heard before now (WriteFault file) = (IsTrue told → LeftPart out net report old new) × (now ≡ before)
Leaves out net report line told old new heard before now Memory = (IsTrue told → LeftPart out net report old new) × (IsTrue heard → TakesFront line before now)
Leaves out net report line told old new heard before now _ = Prim.⊥

-- what is left of the texts that mask the netlist, where the shelf tells that
pub record LeavesMasked (m : Mask) (told : Bool) (old new : Contents) (heard : Bool) (before now : List ℕ) (ended : Ended) : Type 0 where
  pub net : List ℕ
  pub report : List ℕ
  pub line : List ℕ
  pub masks : IsTrue told → HoldsBoth m.library m.net old (λ cells text. Masks cells text m.order net report line)
  pub leaves : Leaves m.out net report line told old new heard before now ended

-- no name's text has changed, and nothing was printed
pub record LeavesAll (old new : Contents) (before now : List ℕ) : Type 0 where
  pub held : AllStay old new
  pub printed : now ≡ before

-- What `mask` leaves after each answer: all as it was, or the texts that mask the netlist or first parts of them.
abbrev pub LeftByMask : Mask → Bool → Contents → Contents → Bool → (before now : List ℕ) → Ended → Type 0
LeftByMask m told old new heard before now Usage = LeavesAll old new before now
LeftByMask m told old new heard before now (ReadFault file) = LeavesAll old new before now
LeftByMask m told old new heard before now (Refused refusal) = LeavesAll old new before now
LeftByMask m told old new heard before now Memory = LeavesAll old new before now ⊎ LeavesMasked m told old new heard before now Memory
LeftByMask m told old new heard before now Done = LeavesMasked m told old new heard before now Done
LeftByMask m told old new heard before now PrintFault = LeavesMasked m told old new heard before now PrintFault
LeftByMask m told old new heard before now (WriteFault file) = LeavesMasked m told old new heard before now (WriteFault file)

-- what of a text is printed after each answer, where the sink tells what it takes
abbrev pub Prints : (text : List ℕ) → Bool → (before now : List ℕ) → Ended → Type 0
Prints text heard before now Done = IsTrue heard → now ≡ before ++ text
Prints text heard before now PrintFault = IsTrue heard → TakesFront text before now
Prints text heard before now Memory = IsTrue heard → TakesFront text before now
Prints text heard before now _ = Prim.⊥

-- what is printed of the text of the simulation; no name's text has changed
pub record LeavesPrinted (s : Sim) (told : Bool) (old new : Contents) (heard : Bool) (before now : List ℕ) (ended : Ended) : Type 0 where
  pub printed : List ℕ
  pub sims : IsTrue told → HoldsBoth s.library s.net old (λ cells text. Holds (old s.stimulus) (λ stimulus. Sims cells text stimulus printed))
  pub prints : Prints printed heard before now ended
  pub held : AllStay old new

-- What `sim` leaves after each answer: all as it was, or the text of the simulation or a first part of it.
abbrev pub LeftBySim : Sim → Bool → Contents → Contents → Bool → (before now : List ℕ) → Ended → Type 0
LeftBySim s told old new heard before now Usage = LeavesAll old new before now
LeftBySim s told old new heard before now (ReadFault file) = LeavesAll old new before now
LeftBySim s told old new heard before now (Refused refusal) = LeavesAll old new before now
LeftBySim s told old new heard before now Memory = LeavesAll old new before now ⊎ LeavesPrinted s told old new heard before now Memory
LeftBySim s told old new heard before now Done = LeavesPrinted s told old new heard before now Done
LeftBySim s told old new heard before now PrintFault = LeavesPrinted s told old new heard before now PrintFault
LeftBySim s told old new heard before now (WriteFault file) = Prim.⊥

-- what is printed of the report's line; no name's text has changed
pub record LeavesLine (r : Reporting) (told : Bool) (old new : Contents) (heard : Bool) (before now : List ℕ) (ended : Ended) : Type 0 where
  pub printed : List ℕ
  pub reports : IsTrue told → Holds (old (report_name r.out)) (λ text. Reports text printed)
  pub prints : Prints printed heard before now ended
  pub held : AllStay old new

-- What `report` leaves after each answer: all as it was, or the line of the report or a first part of it.
abbrev pub LeftByReport : Reporting → Bool → Contents → Contents → Bool → (before now : List ℕ) → Ended → Type 0
LeftByReport r told old new heard before now Usage = LeavesAll old new before now
LeftByReport r told old new heard before now (ReadFault file) = LeavesAll old new before now
LeftByReport r told old new heard before now (Refused refusal) = LeavesAll old new before now
LeftByReport r told old new heard before now Memory = LeavesAll old new before now ⊎ LeavesLine r told old new heard before now Memory
LeftByReport r told old new heard before now Done = LeavesLine r told old new heard before now Done
LeftByReport r told old new heard before now PrintFault = LeavesLine r told old new heard before now PrintFault
LeftByReport r told old new heard before now (WriteFault file) = Prim.⊥

-- what is printed of the line of an audit; no name's text has changed
pub record LeavesAudit (a : Auditing) (told : Bool) (old new : Contents) (heard : Bool) (before now : List ℕ) (ended : Ended) : Type 0 where
  pub printed : List ℕ
  pub audits : IsTrue told → Holds (old a.out) (λ text. Audits text a.order printed)
  pub prints : Prints printed heard before now ended
  pub held : AllStay old new

-- What `audit` leaves after each answer: all as it was, or the line of the network or a first part of it.
abbrev pub LeftByAudit : Auditing → Bool → Contents → Contents → Bool → (before now : List ℕ) → Ended → Type 0
LeftByAudit a told old new heard before now Usage = LeavesAll old new before now
LeftByAudit a told old new heard before now (ReadFault file) = LeavesAll old new before now
LeftByAudit a told old new heard before now (Refused refusal) = LeavesAll old new before now
LeftByAudit a told old new heard before now Memory = LeavesAll old new before now ⊎ LeavesAudit a told old new heard before now Memory
LeftByAudit a told old new heard before now Done = LeavesAudit a told old new heard before now Done
LeftByAudit a told old new heard before now PrintFault = LeavesAudit a told old new heard before now PrintFault
LeftByAudit a told old new heard before now (WriteFault file) = Prim.⊥

-- what is printed of the text of some probes; no name's text has changed
pub record LeavesCones (p : Probing) (told : Bool) (old new : Contents) (heard : Bool) (before now : List ℕ) (ended : Ended) : Type 0 where
  pub printed : List ℕ
  pub cones : IsTrue told → Holds (old p.out) (λ text. Holds (old p.probes) (λ probes. Cones text p.order probes printed))
  pub prints : Prints printed heard before now ended
  pub held : AllStay old new

-- What `cones` leaves after each answer: all as it was, or the text of the probes or a first part of it.
abbrev pub LeftByCones : Probing → Bool → Contents → Contents → Bool → (before now : List ℕ) → Ended → Type 0
LeftByCones p told old new heard before now Usage = LeavesAll old new before now
LeftByCones p told old new heard before now (ReadFault file) = LeavesAll old new before now
LeftByCones p told old new heard before now (Refused refusal) = LeavesAll old new before now
LeftByCones p told old new heard before now Memory = LeavesAll old new before now ⊎ LeavesCones p told old new heard before now Memory
LeftByCones p told old new heard before now Done = LeavesCones p told old new heard before now Done
LeftByCones p told old new heard before now PrintFault = LeavesCones p told old new heard before now PrintFault
LeftByCones p told old new heard before now (WriteFault file) = Prim.⊥

-- What `both` leaves after each answer: all as it was, or the texts of OUT and of the lines or first parts of them.
abbrev pub LeftByBoth : Comparing → Bool → Contents → Contents → Bool → (before now : List ℕ) → Ended → Type 0
LeftByBoth c told old new heard before now Usage = LeavesAll old new before now
LeftByBoth c told old new heard before now (ReadFault file) = LeavesAll old new before now
LeftByBoth c told old new heard before now (Refused refusal) = LeavesAll old new before now
LeftByBoth c told old new heard before now Memory = LeavesAll old new before now ⊎ LeavesCompared c told old new heard before now Memory
LeftByBoth c told old new heard before now Done = LeavesCompared c told old new heard before now Done
LeftByBoth c told old new heard before now PrintFault = LeavesCompared c told old new heard before now PrintFault
LeftByBoth c told old new heard before now (WriteFault file) = LeavesCompared c told old new heard before now (WriteFault file)

abbrev pub HasLeft : Request → Bool → Contents → Contents → Bool → (before now : List ℕ) → Ended → Type 0
HasLeft (mask m) told old new heard before now ended = LeftByMask m told old new heard before now ended
HasLeft (sim s) told old new heard before now ended = LeftBySim s told old new heard before now ended
HasLeft (reporting r) told old new heard before now ended = LeftByReport r told old new heard before now ended
HasLeft (auditing a) told old new heard before now ended = LeftByAudit a told old new heard before now ended
HasLeft (probing p) told old new heard before now ended = LeftByCones p told old new heard before now ended
HasLeft (comparing c) told old new heard before now ended = LeftByBoth c told old new heard before now ended

-- names that are no outputs of the command hold what they held
abbrev pub OthersStay : Request → Contents → Contents → Type 0
OthersStay (mask m) old new = OthersKeep m.out old new
OthersStay (sim s) old new = AllStay old new
OthersStay (reporting r) old new = AllStay old new
OthersStay (auditing a) old new = AllStay old new
OthersStay (probing p) old new = AllStay old new
OthersStay (comparing c) old new = shelf.OthersStay c.masking.out old new

-- answers of steps that write nothing
abbrev pub IsUntouched : Ended → Type 0
IsUntouched Usage = Unit {0}
IsUntouched (ReadFault file) = Unit {0}
IsUntouched (Refused refusal) = Unit {0}
IsUntouched Memory = Unit {0}
IsUntouched _ = Prim.⊥
