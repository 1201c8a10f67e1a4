-- Causes of the answers of `both`, and what they leave.
use Rattle.std.proofs.Common.{◌≡◌, ◌≢◌, ◌≤◌, ◌++◌, ◌∙◌, ℕ, List, [], Bool, IsTrue, Option, Some, None, refl, ap, sym, subst, inl, inr, arith}
use Rattle.agm_net.specs.Plain.{PlainNet}
use Rattle.agm_shelf.specs.Shelf.{Contents, AllStay, IsFrontOrOld, TakesFront}
use Rattle.cell_library.specs.Judged.{PlainCell}
use Rattle.share_wiring.specs.declared.report.Report.{Report}
use Rattle.agema_texts.specs.Comparing.{Compares, IsComparable, IsMade, IsUncompared}
use Rattle.agema_texts.specs.Masks.{IsWithin, IsUnmasked}
use Rattle.agema_texts.specs.Original.{EndsBy}
use Rattle.agema_texts.specs.Sims.{IsBadStimulus}
use Rattle.agema_texts.proofs.Comparings.{made_uncompared}
use Rattle.agema_texts.proofs.Ends.{of_binding}
use Rattle.agema_answers.specs.declared.ended.Ended.{Ended}
use Rattle.agema_answers.specs.declared.ended.Ended.TheVariants.{Done, Usage, ReadFault, WriteFault, PrintFault, Memory, Refused}
use Rattle.agema_answers.specs.declared.refusal.Refusal.{Refusal}
use Rattle.agema_answers.specs.declared.refusal.Refusal.TheVariants.{TooLong, BadStimulus}
use Rattle.agema_core.specs.Words.{Comparing}
use Rattle.agema_core.specs.Answer.{AtLibraryOr}
use Rattle.agema_core.specs.Compared.{IsComparedEnd, IsDriven, IsMaskable, IsSending, LeavesCompared, Sends, ToldNet}
use Rattle.agema_core.specs.Found.{Counts, Found, Holds, AreCells, HoldsBoth, IsInputEnd, IsReadEnd, IsPrintEnd}
use Rattle.agema_core.specs.Left.{LeftByBoth}
use Rattle.agema_core.proofs.Ends.{told_both}
use Rattle.agema_core.proofs.Left.{whole_front}

-- a run that ends at a file that is read before the work
at_net : (c : Comparing) (f : Found) (before now : Counts) (ended : Ended) → IsReadEnd c.masking.net f.tells f.sound (f.holds c.masking.net) before.reads now.reads ended → IsComparedEnd c f before now ended
at_net c f before now (ReadFault file) h = inl h
at_net c f before now Memory h = tt
at_net c f before now (Refused (TooLong file)) h = inl h
at_net c f before now _ h = absurd h

pub input_end : (c : Comparing) (f : Found) (before now : Counts) (ended : Ended) → IsInputEnd c.masking.library c.masking.net f before.reads now.reads ended → AtLibraryOr c.masking.library f before now ended (IsComparedEnd c f before now ended)
input_end c f before now ended (inl at) = inl at
input_end c f before now ended (inr (has, read)) = inr (has, at_net c f before now ended read)

-- a refusal to mask ends `both`
pub refused_masking : (c : Comparing) (f : Found) (before now : Counts) (cells : List PlainCell) (text : List ℕ) → (IsTrue f.tells → AreCells c.masking.library f.holds cells) → (IsTrue f.tells → f.holds c.masking.net ≡ Some text)
    → (ended : Ended) → EndsBy (IsUnmasked cells text c.masking.order) ended → IsComparedEnd c f before now ended
refused_masking c f before now cells text are is Memory h = tt
refused_masking c f before now cells text are is (Refused (TooLong file)) (short, design, spelled, fault, fails, told) = absurd (of_binding fault (TooLong file) told)
refused_masking c f before now cells text are is (Refused (BadStimulus cause stream step)) (short, design, spelled, fault, fails, told) = absurd (of_binding fault (BadStimulus cause stream step) told)
refused_masking c f before now cells text are is (Refused refusal) h = told_both c.masking.library c.masking.net f (λ cells text. IsUnmasked cells text c.masking.order refusal) cells text are is h
refused_masking c f before now cells text are is _ h = absurd h

-- where the reading of the stimulus ends `both`
pub unread_stimulus : (c : Comparing) (f : Found) (before now : Counts) (mid : ℕ) → before.reads ≤ mid → ToldNet c f (IsMaskable c) → (ended : Ended) → IsReadEnd c.stimulus f.tells f.sound (f.holds c.stimulus) mid now.reads ended → IsComparedEnd c f before now ended
unread_stimulus c f before now mid le masks (ReadFault file) (named, (rose, none)) = inr (masks, named, (omega arith, none))
unread_stimulus c f before now mid le masks Memory h = tt
unread_stimulus c f before now mid le masks (Refused (TooLong file)) (named, long) = inr (masks, named, long)
unread_stimulus c f before now mid le masks _ h = absurd h

-- a refusal of the stimulus ends `both`
pub refused_stimulus : (c : Comparing) (f : Found) (before now : Counts) (cells : List PlainCell) (text drive : List ℕ) (original made : PlainNet) (report : Report) (out : List ℕ)
    → (IsTrue f.tells → AreCells c.masking.library f.holds cells) → (IsTrue f.tells → f.holds c.masking.net ≡ Some text) → (IsTrue f.tells → f.holds c.stimulus ≡ Some drive)
    → IsMade cells text c.masking.order original made report out → (ended : Ended) → EndsBy (IsBadStimulus original (Some report.streams) drive) ended → IsComparedEnd c f before now ended
refused_stimulus c f before now cells text drive original made report out are is drives m Memory h = tt
refused_stimulus c f before now cells text drive original made report out are is drives m (Refused (BadStimulus cause stream step)) h =
    λ t. (cells, are t, (text, is t, (drive, drives t, made_uncompared cells text c.masking.order original made report out drive m (BadStimulus cause stream step) h)))
refused_stimulus c f before now cells text drive original made report out are is drives m (Refused _) h = absurd h
refused_stimulus c f before now cells text drive original made report out are is drives m _ h = absurd h

-- where the writing and the printing end `both`
pub sent_end : (c : Comparing) (f : Found) (before now : Counts) (mid : ℕ) → before.writes ≤ mid → ToldNet c f (IsDriven c f) → (ended : Ended) → IsSending c.masking.out f.sound f.prints mid now.writes before.prints now.prints ended → IsComparedEnd c f before now ended
sent_end c f before now mid le fit Done d = fit
sent_end c f before now mid le fit (WriteFault file) d = (fit, d.0, ((let rose = d.1.0 in omega arith), d.1.1))
sent_end c f before now mid le fit PrintFault d = (fit, d)
sent_end c f before now mid le fit Memory d = tt
sent_end c f before now mid le fit _ d = absurd d

-- what the printing leaves, behind a file that is whole
pub sent : (out net lines : List ℕ) (told : Bool) (old new : Contents) (heard : Bool) (before now : List ℕ) (sound : Bool) (f0 f1 : ℕ) (ended : Ended) → IsPrintEnd sound f0 f1 ended
    → (IsTrue told → new out ≡ Some net) → (ended ≡ Done → IsTrue heard → now ≡ before ++ lines) → (ended ≢ Done → IsTrue heard → TakesFront lines before now)
    → Sends out net lines told old new heard before now ended
sent out net lines told old new heard before now sound f0 f1 Done end whole done front = (whole, done refl)
sent out net lines told old new heard before now sound f0 f1 PrintFault end whole done front = (whole, front (λ e. cc))
sent out net lines told old new heard before now sound f0 f1 Memory end whole done front = ((λ t. whole_front net (old out) (new out) (whole t)), front (λ e. cc))
sent out net lines told old new heard before now sound f0 f1 Usage end whole done front = absurd end
sent out net lines told old new heard before now sound f0 f1 (ReadFault file) end whole done front = absurd end
sent out net lines told old new heard before now sound f0 f1 (WriteFault file) end whole done front = absurd end
sent out net lines told old new heard before now sound f0 f1 (Refused refusal) end whole done front = absurd end

-- contents that are the same at each name
same_sends : (out net lines : List ℕ) (told : Bool) (old mid new : Contents) (heard : Bool) (before now : List ℕ) (ended : Ended) → AllStay old mid → Sends out net lines told mid new heard before now ended → Sends out net lines told old new heard before now ended
same_sends out net lines told old mid new heard before now Done same h = h
same_sends out net lines told old mid new heard before now PrintFault same h = h
same_sends out net lines told old mid new heard before now (WriteFault file) same h = ((λ t. subst (λ held. IsFrontOrOld net held (new out)) (same out) (h.0 t)), h.1)
same_sends out net lines told old mid new heard before now Memory same h = ((λ t. subst (λ held. IsFrontOrOld net held (new out)) (same out) (h.0 t)), h.1)
same_sends out net lines told old mid new heard before now Usage same h = h
same_sends out net lines told old mid new heard before now (ReadFault file) same h = h
same_sends out net lines told old mid new heard before now (Refused refusal) same h = h

left_by : (c : Comparing) (told : Bool) (old new : Contents) (heard : Bool) (before now : List ℕ) (ended : Ended) → LeavesCompared c told old new heard before now ended
    → ((sound prints : Bool) (w0 w1 p0 p1 : ℕ) → IsSending c.masking.out sound prints w0 w1 p0 p1 ended → LeftByBoth c told old new heard before now ended)
left_by c told old new heard before now Done h sound prints w0 w1 p0 p1 d = h
left_by c told old new heard before now PrintFault h sound prints w0 w1 p0 p1 d = h
left_by c told old new heard before now (WriteFault file) h sound prints w0 w1 p0 p1 d = h
left_by c told old new heard before now Memory h sound prints w0 w1 p0 p1 d = inr h
left_by c told old new heard before now Usage h sound prints w0 w1 p0 p1 d = absurd d
left_by c told old new heard before now (ReadFault file) h sound prints w0 w1 p0 p1 d = absurd d
left_by c told old new heard before now (Refused refusal) h sound prints w0 w1 p0 p1 d = absurd d

-- what is left of the texts for what was read
pub sent_left : (c : Comparing) (net lines text drive : List ℕ) (cells : List PlainCell) (told : Bool) (old mid new : Contents) (heard : Bool) (before now : List ℕ) (sound prints : Bool) (w0 w1 p0 p1 : ℕ) (ended : Ended)
    → AllStay old mid → (IsTrue told → AreCells c.masking.library old cells) → (IsTrue told → old c.masking.net ≡ Some text) → (IsTrue told → old c.stimulus ≡ Some drive) → Compares cells text c.masking.order drive c.seed net lines
    → IsSending c.masking.out sound prints w0 w1 p0 p1 ended → Sends c.masking.out net lines told mid new heard before now ended → LeftByBoth c told old new heard before now ended
sent_left c net lines text drive cells told old mid new heard before now sound prints w0 w1 p0 p1 ended same are read drives compares end sends =
    let all : LeavesCompared c told old new heard before now ended = record {
      net = net;
      lines = lines;
      compares = λ t. (cells, are t, (text, read t, (drive, drives t, compares)));
      sends = same_sends c.masking.out net lines told old mid new heard before now ended same sends;
    } in
    left_by c told old new heard before now ended all sound prints w0 w1 p0 p1 end
