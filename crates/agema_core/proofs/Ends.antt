-- Facts on the causes of answers.
use Rattle.std.proofs.Common.{◌≡◌, ◌≤◌, ◌⊎◌, ◌∙◌, ℕ, List, [], Bool, IsTrue, Option, Some, None, Result, Ok, Err, IfErr, length, map, refl, ap, sym, subst, subst₂, inl, inr, arith}
use Rattle.agm_net.specs.Plain.{PlainNet}
use Rattle.agm_shelf.specs.Shelf.{Contents}
use Rattle.cell_library.specs.Judged.{PlainCell}
use Rattle.cell_library.specs.Spelled.{Spelled, cell_name, first_fault}
use Rattle.agema_texts.specs.Original.{EndsBy, length_limit}
use Rattle.agema_texts.specs.Masks.{Masks, CanMask, IsWithin, IsUnmasked}
use Rattle.agema_texts.proofs.Ends.{of_binding}
use Rattle.agema_texts.proofs.Comparings.{short_stimulus}
use Rattle.agema_texts.specs.Auditing.{CanAudit, IsUnaudited}
use Rattle.agema_texts.specs.Comparing.{CanCompare, IsUncompared}
use Rattle.agema_texts.specs.Probing.{CanProbe, IsBadList, IsNetwork, IsUnprobed}
use Rattle.agema_texts.specs.Reported.{CanReport, IsBadReport}
use Rattle.agema_texts.specs.Sims.{CanSim, IsClocked, IsUnclocked, IsUndriven, IsBadStimulus, IsSimulated, Sims}
use Rattle.agema_answers.specs.declared.ended.Ended.{Ended}
use Rattle.agema_answers.specs.declared.ended.Ended.TheVariants.{Done, Usage, ReadFault, WriteFault, PrintFault, Memory, Refused}
use Rattle.agema_answers.specs.declared.refusal.Refusal.{Refusal}
use Rattle.agema_answers.specs.declared.refusal.Refusal.TheVariants.{TooLong, LibrarySyntax, Cell, BadReport, BadStimulus, BadProbe}
use Rattle.agema_core.specs.Compared.{ComparingFits, IsComparedEnd, IsMaskable}
use Rattle.agema_core.specs.Words.{Mask, Sim, Reporting, Auditing, Probing, Comparing, Request, mask, sim, reporting, auditing, probing, comparing, Asks, HasOrder}
use Rattle.agema_core.specs.Found.{Counts, Found, Holds, Told, IsTooLong, IsDash, IsLibrary, IsNoLibrary, HasWrongCell, IsWrongLibrary, AreCells, HoldsBoth, ToldBoth, IsLibraryEnd, IsInputEnd, IsReadEnd, IsPrintEnd}
use Rattle.agema_core.specs.Answer.{HasCause, AtLibraryOr, MaskFits, IsMasked, SimFits, IsRunnable, IsMaskEnd, IsSimEnd, IsReportEnd, IsAuditEnd, AuditFits, IsConesEnd, ConesFit, OutFits, ProbesFit, report_name, IsComplete, NothingFails}
use Rattle.agema_core.specs.Left.{IsDelivery}

-- the words of a command are not refused as words
mask_not_usage : (m : Mask) (f : Found) (before now : Counts) (ended : Ended) → IsMaskEnd m f before now ended → ended ≡ Usage → Prim.⊥
mask_not_usage m f before now ended h e = let P : Ended → Type 0 = λ x. IsMaskEnd m f before now x in subst P e h

sim_not_usage : (s : Sim) (f : Found) (before now : Counts) (ended : Ended) → IsSimEnd s f before now ended → ended ≡ Usage → Prim.⊥
sim_not_usage s f before now ended h e = let P : Ended → Type 0 = λ x. IsSimEnd s f before now x in subst P e h

report_not_usage : (r : Reporting) (f : Found) (before now : Counts) (ended : Ended) → IsReportEnd r f before now ended → ended ≡ Usage → Prim.⊥
report_not_usage r f before now ended h e = let P : Ended → Type 0 = λ x. IsReportEnd r f before now x in subst P e h

audit_not_usage : (a : Auditing) (f : Found) (before now : Counts) (ended : Ended) → IsAuditEnd a f before now ended → ended ≡ Usage → Prim.⊥
audit_not_usage a f before now ended h e = let P : Ended → Type 0 = λ x. IsAuditEnd a f before now x in subst P e h

cones_not_usage : (p : Probing) (f : Found) (before now : Counts) (ended : Ended) → IsConesEnd p f before now ended → ended ≡ Usage → Prim.⊥
cones_not_usage p f before now ended h e = let P : Ended → Type 0 = λ x. IsConesEnd p f before now x in subst P e h

library_not_usage : (name : List ℕ) (tells sound : Bool) (held : Option (List ℕ)) (before now : ℕ) (ended : Ended) → IsLibraryEnd name tells sound held before now ended → ended ≡ Usage → Prim.⊥
library_not_usage name tells sound held before now ended h e = let P : Ended → Type 0 = λ x. IsLibraryEnd name tells sound held before now x in subst P e h

compared_not_usage : (c : Comparing) (f : Found) (before now : Counts) (ended : Ended) → IsComparedEnd c f before now ended → ended ≡ Usage → Prim.⊥
compared_not_usage c f before now ended h e = let P : Ended → Type 0 = λ x. IsComparedEnd c f before now x in subst P e h

pub not_usage : (r : Request) (f : Found) (before now : Counts) (ended : Ended) → HasCause r f before now ended → ended ≡ Usage → Prim.⊥
not_usage (mask m) f before now ended (inl words) e = let other = words.1 in cc
not_usage (mask m) f before now ended (inr (built, inl at)) e = library_not_usage m.library f.tells f.sound (f.holds m.library) before.reads now.reads ended at.1 e
not_usage (mask m) f before now ended (inr (built, inr behind)) e = mask_not_usage m f before now ended behind.1 e
not_usage (sim s) f before now ended (inl at) e = library_not_usage s.library f.tells f.sound (f.holds s.library) before.reads now.reads ended at.1 e
not_usage (sim s) f before now ended (inr behind) e = sim_not_usage s f before now ended behind.1 e
not_usage (reporting r) f before now ended h e = report_not_usage r f before now ended h e
not_usage (auditing a) f before now ended h e = audit_not_usage a f before now ended h e
not_usage (probing p) f before now ended h e = cones_not_usage p f before now ended h e
not_usage (comparing c) f before now ended (inl words) e = let other = words.1 in cc
not_usage (comparing c) f before now ended (inr (built, inl at)) e = library_not_usage c.masking.library f.tells f.sound (f.holds c.masking.library) before.reads now.reads ended at.1 e
not_usage (comparing c) f before now ended (inr (built, inr behind)) e = compared_not_usage c f before now ended behind.1 e

-- what is told of the text that is held
pub told_of : (tells : Bool) (held : Option (List ℕ)) (Fact : List ℕ → Type 0) (text : List ℕ) → held ≡ Some text → IsTrue tells → Told tells held Fact → Fact text
told_of tells held Fact text is heard told =
    let other = told heard in
    let same : other.0 ≡ text = (let e = other.1 in cc) in
    subst Fact same other.2

-- what is wrong with the bytes that were read is wrong with what is held
pub library_wrong : (name : List ℕ) (tells sound : Bool) (held : Option (List ℕ)) (before now : ℕ) (text : List ℕ) → (IsTrue tells → held ≡ Some text) → (ended : Ended) → IsWrongLibrary text ended → IsLibraryEnd name tells sound held before now ended
library_wrong name tells sound held before now text is Memory h = tt
library_wrong name tells sound held before now text is (Refused (LibrarySyntax at)) h = λ t. (text, is t, h)
library_wrong name tells sound held before now text is (Refused (Cell cell cause)) h = λ t. (text, is t, h)
library_wrong name tells sound held before now text is _ h = absurd h

-- by the law that no text spells two libraries
abbrev pub SpellsOnce : Type 0
SpellsOnce = (bytes : List ℕ) (cells more : List PlainCell) → Spelled bytes cells → Spelled bytes more → cells ≡ more

-- LIB has one list of cells
one_cells : SpellsOnce → (name : List ℕ) (holds : Contents) (cells more : List PlainCell) → AreCells name holds cells → AreCells name holds more → cells ≡ more
one_cells once name holds cells more (inl (dash, none)) (inl (too, nothing)) = none ∙ sym nothing
one_cells once name holds cells more (inl (dash, none)) (inr (not, held)) = absurd (not dash)
one_cells once name holds cells more (inr (not, held)) (inl (dash, none)) = absurd (not dash)
one_cells once name holds cells more (inr (not, (text, is, library))) (inr (too, (other, are, found))) =
    let same : text ≡ other = cc in
    let P : List ℕ → Type 0 = λ t. Spelled t cells in
    once other cells more (subst P same library.1) found.1

-- two facts of LIB and NET hold of the same cells and text
pub both_hold : SpellsOnce → (library net : List ℕ) (holds : Contents) (First Second : List PlainCell → List ℕ → Type 0) → HoldsBoth library net holds First → HoldsBoth library net holds Second
    → (cells : List PlainCell) × (text : List ℕ) × (holds net ≡ Some text) × First cells text × Second cells text
both_hold once library net holds First Second (cells, are, (text, is, fact)) (more, too, (other, held, second)) =
    let same_cells : more ≡ cells = one_cells once library holds more cells too are in
    let same_text : other ≡ text = cc in
    let P : List PlainCell → List ℕ → Type 0 = λ c t. Second c t in
    (cells, text, is, fact, subst₂ P same_cells same_text second)

-- the text of a library is not refused
library_not_refused : (name : List ℕ) (tells sound : Bool) (held : Option (List ℕ)) (before now : ℕ) (refusal : Refusal) (cells : List PlainCell) (text : List ℕ) → SpellsOnce → IsTrue tells → held ≡ Some text → IsLibrary cells text → IsLibraryEnd name tells sound held before now (Refused refusal) → Prim.⊥
library_not_refused name tells sound held before now (TooLong file) cells text once told is library end =
    let long = told_of tells held IsTooLong text is told end.1 in
    let short = library.0 in
    absurd (omega arith)
library_not_refused name tells sound held before now (LibrarySyntax at) cells text once told is library end =
    let wrong = told_of tells held (IsNoLibrary at) text is told end in wrong.1 cells library.1
library_not_refused name tells sound held before now (Cell cell cause) cells text once told is library end =
    let wrong = told_of tells held (HasWrongCell cell cause) text is told end in
    let same = ap (λ cells. first_fault [] (map cell_name cells)) (once text cells wrong.1 library.1 wrong.2) in
    let none = library.2 in
    let some = wrong.3 in
    cc
library_not_refused name tells sound held before now _ cells text once told is library end = end

tells_of : (f : Found) (before now : Counts) → (IsTrue f.sound → IsTrue f.tells) → NothingFails f before now → IsTrue f.tells
tells_of f before now sound (inl (tells, none)) = tells
tells_of f before now sound (inr (is, prints)) = sound is

-- a run does not end at a library that is held, but for want of memory
library_completes : (name : List ℕ) (f : Found) (before now : Counts) (ended : Ended) (cells : List PlainCell) → SpellsOnce → (IsTrue f.sound → IsTrue f.tells)
    → IsLibraryEnd name f.tells f.sound (f.holds name) before.reads now.reads ended → Holds (f.holds name) (IsLibrary cells) → NothingFails f before now → (ended ≡ Done) ⊎ (ended ≡ Memory)
library_completes name f before now (ReadFault file) cells once sound end held nothing = elim nothing [
  | inl counts ↦ absurd (counts.1.reads end.1.0)
  | inr sure ↦ (let none = end.1.1 sure.0 in let some = held.1 in cc)
]
library_completes name f before now Memory cells once sound end held nothing = inr refl
library_completes name f before now (Refused refusal) cells once sound end held nothing =
    absurd (library_not_refused name f.tells f.sound (f.holds name) before.reads now.reads refusal cells held.0 once (tells_of f before now sound nothing) held.1 held.2 end)
library_completes name f before now _ cells once sound end held nothing = absurd end

at_library : (name : List ℕ) (f : Found) (before now : Counts) (ended : Ended) (cells : List PlainCell) → SpellsOnce → (IsTrue f.sound → IsTrue f.tells)
    → (IsDash name → Prim.⊥) → IsLibraryEnd name f.tells f.sound (f.holds name) before.reads now.reads ended → AreCells name f.holds cells → NothingFails f before now → (ended ≡ Done) ⊎ (ended ≡ Memory)
at_library name f before now ended cells once sound named end (inl (dash, none)) nothing = absurd (named dash)
at_library name f before now ended cells once sound named end (inr (not, held)) nothing = library_completes name f before now ended cells once sound end held nothing

-- by the laws that texts determine what is masked and run
abbrev pub MaskedOnce : Type 0
MaskedOnce = (cells : List PlainCell) (bytes : List ℕ) (order : ℕ) (refusal : Refusal) → CanMask cells bytes order → IsUnmasked cells bytes order refusal → Prim.⊥

pub record RunsOnce : Type 0 where
  pub net : (cells : List PlainCell) (bytes : List ℕ) (m n : PlainNet) → IsClocked cells bytes m → IsClocked cells bytes n → m ≡ n
  pub clocked : (cells : List PlainCell) (bytes : List ℕ) (net : PlainNet) (refusal : Refusal) → IsClocked cells bytes net → IsUnclocked cells bytes refusal → Prim.⊥
  pub driven : (cells : List PlainCell) (bytes stimulus : List ℕ) (refusal : Refusal) → CanSim cells bytes stimulus → IsUndriven cells bytes stimulus refusal → Prim.⊥

-- the text of an original is not too long
short_original : (m : Mask) (cells : List PlainCell) (text : List ℕ) → MaskFits m cells text → length text ≤ length_limit
short_original m cells text (net, marks, is, no_leak, fits, narrow) = is.read.short

-- a netlist that can be masked is not refused
mask_not_refused : (m : Mask) (f : Found) (before now : Counts) (refusal : Refusal) → SpellsOnce → MaskedOnce → IsTrue f.tells → HoldsBoth m.library m.net f.holds (MaskFits m) → IsMaskEnd m f before now (Refused refusal) → Prim.⊥
mask_not_refused m f before now (TooLong file) once masked tells (cells, are, (text, is, fits)) end =
    let long = told_of f.tells (f.holds m.net) IsTooLong text is tells end.1 in
    let short = short_original m cells text fits in
    absurd (omega arith)
mask_not_refused m f before now refusal once masked tells held end =
    let found = both_hold once m.library m.net f.holds (MaskFits m) (λ cells text. IsUnmasked cells text m.order refusal) held (end tells) in
    masked found.0 found.1 m.order refusal found.3 found.4

mask_completes : (m : Mask) (f : Found) (before now : Counts) (ended : Ended) → SpellsOnce → MaskedOnce → (IsTrue f.sound → IsTrue f.tells) → IsMaskEnd m f before now ended → HoldsBoth m.library m.net f.holds (MaskFits m) → NothingFails f before now → (ended ≡ Done) ⊎ (ended ≡ Memory)
mask_completes m f before now Done once masked sound end held nothing = inl refl
mask_completes m f before now Memory once masked sound end held nothing = inr refl
mask_completes m f before now Usage once masked sound end held nothing = absurd end
mask_completes m f before now (ReadFault file) once masked sound end (cells, are, text) nothing = elim nothing [
  | inl counts ↦ absurd (counts.1.reads end.1.0)
  | inr sure ↦ (let none = end.1.1 sure.0 in let some = text.1 in cc)
]
mask_completes m f before now (WriteFault file) once masked sound end held nothing = elim nothing [
  | inl counts ↦ absurd (counts.1.writes end.2.0)
  | inr sure ↦ absurd (end.2.1 sure.0)
]
mask_completes m f before now PrintFault once masked sound end held nothing = elim nothing [
  | inl counts ↦ absurd (counts.1.prints end.1.0)
  | inr sure ↦ absurd (end.1.1 sure.1)
]
mask_completes m f before now (Refused refusal) once masked sound end held nothing =
    absurd (mask_not_refused m f before now refusal once masked (tells_of f before now sound nothing) held end)

-- the texts of a simulation are not too long
short_clocked : (cells : List PlainCell) (text : List ℕ) (net : PlainNet) → IsClocked cells text net → length text ≤ length_limit
short_clocked cells text net (design, read, keeps) = read.short

-- a netlist with a stimulus that can be simulated is not refused
sim_not_refused : (s : Sim) (f : Found) (before now : Counts) (refusal : Refusal) → SpellsOnce → RunsOnce → IsTrue f.tells → HoldsBoth s.library s.net f.holds (SimFits s f) → IsSimEnd s f before now (Refused refusal) → Prim.⊥
sim_not_refused s f before now (TooLong file) once runs tells (cells, are, (text, is, (stimulus, drives, (net, streams, clocked, has)))) (inl (named, long)) =
    let above = told_of f.tells (f.holds s.net) IsTooLong text is tells long in
    let short = short_clocked cells text net clocked in
    absurd (omega arith)
sim_not_refused s f before now (TooLong file) once runs tells (cells, are, (text, is, (stimulus, drives, (net, streams, clocked, has)))) (inr (runnable, named, long)) =
    let above = told_of f.tells (f.holds s.stimulus) IsTooLong stimulus drives tells long in
    let short = has.0 in
    absurd (omega arith)
sim_not_refused s f before now (BadStimulus cause stream step) once runs tells held end =
    let Bad : List PlainCell → List ℕ → Type 0 = λ cells text. Holds (f.holds s.stimulus) (λ stimulus. IsUndriven cells text stimulus (BadStimulus cause stream step)) in
    let found = both_hold once s.library s.net f.holds (SimFits s f) Bad held (end tells) in
    let fits = found.3 in
    let bad = found.4 in
    let same : bad.0 ≡ fits.0 = (let e = fits.1 in let d = bad.1 in cc) in
    let P : List ℕ → Type 0 = λ t. IsUndriven found.0 found.1 t (BadStimulus cause stream step) in
    runs.driven found.0 found.1 fits.0 (BadStimulus cause stream step) fits.2 (subst P same bad.2)
sim_not_refused s f before now refusal once runs tells held end =
    let found = both_hold once s.library s.net f.holds (SimFits s f) (λ cells text. IsUnclocked cells text refusal) held (end tells) in
    let fits = found.3.2 in
    runs.clocked found.0 found.1 fits.0 refusal fits.2 found.4

sim_completes : (s : Sim) (f : Found) (before now : Counts) (ended : Ended) → SpellsOnce → RunsOnce → (IsTrue f.sound → IsTrue f.tells) → IsSimEnd s f before now ended → HoldsBoth s.library s.net f.holds (SimFits s f) → NothingFails f before now → (ended ≡ Done) ⊎ (ended ≡ Memory)
sim_completes s f before now Done once runs sound end held nothing = inl refl
sim_completes s f before now Memory once runs sound end held nothing = inr refl
sim_completes s f before now Usage once runs sound end held nothing = absurd end
sim_completes s f before now (WriteFault file) once runs sound end held nothing = absurd end
sim_completes s f before now (ReadFault file) once runs sound (inl (named, fails)) (cells, are, (text, is, fits)) nothing = elim nothing [
  | inl counts ↦ absurd (counts.1.reads fails.0)
  | inr sure ↦ (let none = fails.1 sure.0 in cc)
]
sim_completes s f before now (ReadFault file) once runs sound (inr (runnable, named, fails)) (cells, are, (text, is, (stimulus, drives, fits))) nothing = elim nothing [
  | inl counts ↦ absurd (counts.1.reads fails.0)
  | inr sure ↦ (let none = fails.1 sure.0 in cc)
]
sim_completes s f before now PrintFault once runs sound end held nothing = elim nothing [
  | inl counts ↦ absurd (counts.1.prints end.1.0)
  | inr sure ↦ absurd (end.1.1 sure.1)
]
sim_completes s f before now (Refused refusal) once runs sound end held nothing =
    absurd (sim_not_refused s f before now refusal once runs (tells_of f before now sound nothing) held end)

-- by the law that a text states one report at most
abbrev pub ReadsOnce : Type 0
ReadsOnce = (text : List ℕ) (refusal : Refusal) → CanReport text → IsBadReport text refusal → Prim.⊥

-- a text that states a report is not refused
report_not_refused : (r : Reporting) (f : Found) (before now : Counts) (refusal : Refusal) → ReadsOnce → IsTrue f.tells → Holds (f.holds (report_name r.out)) CanReport → IsReportEnd r f before now (Refused refusal) → Prim.⊥
report_not_refused r f before now (TooLong file) once tells (text, is, can) end =
    let long = told_of f.tells (f.holds (report_name r.out)) IsTooLong text is tells end.1 in
    let short = can.1.0 in
    absurd (omega arith)
report_not_refused r f before now refusal once tells (text, is, can) end =
    once text refusal can (told_of f.tells (f.holds (report_name r.out)) (λ text. IsBadReport text refusal) text is tells end)

report_completes : (r : Reporting) (f : Found) (before now : Counts) (ended : Ended) → ReadsOnce → (IsTrue f.sound → IsTrue f.tells) → IsReportEnd r f before now ended → Holds (f.holds (report_name r.out)) CanReport → NothingFails f before now → (ended ≡ Done) ⊎ (ended ≡ Memory)
report_completes r f before now Done once sound end held nothing = inl refl
report_completes r f before now Memory once sound end held nothing = inr refl
report_completes r f before now Usage once sound end held nothing = absurd end
report_completes r f before now (WriteFault file) once sound end held nothing = absurd end
report_completes r f before now (ReadFault file) once sound end held nothing = elim nothing [
  | inl counts ↦ absurd (counts.1.reads end.1.0)
  | inr sure ↦ (let none = end.1.1 sure.0 in let some = held.1 in cc)
]
report_completes r f before now PrintFault once sound end held nothing = elim nothing [
  | inl counts ↦ absurd (counts.1.prints end.1.0)
  | inr sure ↦ absurd (end.1.1 sure.1)
]
report_completes r f before now (Refused refusal) once sound end held nothing =
    absurd (report_not_refused r f before now refusal once (tells_of f before now sound nothing) held end)

-- by the law that what can be audited is not refused
abbrev pub AuditsOnce : Type 0
AuditsOnce = (bytes : List ℕ) (order : ℕ) (refusal : Refusal) → CanAudit bytes order → IsUnaudited bytes order refusal → Prim.⊥

-- a text that gives an HPC2 network is not refused
audit_not_refused : (a : Auditing) (f : Found) (before now : Counts) (refusal : Refusal) → AuditsOnce → IsTrue f.tells → Holds (f.holds a.out) (λ text. CanAudit text a.order) → IsAuditEnd a f before now (Refused refusal) → Prim.⊥
audit_not_refused a f before now (TooLong file) once tells (text, is, can) end =
    let long = told_of f.tells (f.holds a.out) IsTooLong text is tells end.1 in
    let short = can.1.0 in
    absurd (omega arith)
audit_not_refused a f before now refusal once tells (text, is, can) end =
    once text a.order refusal can (told_of f.tells (f.holds a.out) (λ text. IsUnaudited text a.order refusal) text is tells end)

audit_completes : (a : Auditing) (f : Found) (before now : Counts) (ended : Ended) → AuditsOnce → (IsTrue f.sound → IsTrue f.tells) → IsAuditEnd a f before now ended → Holds (f.holds a.out) (λ text. CanAudit text a.order) → NothingFails f before now → (ended ≡ Done) ⊎ (ended ≡ Memory)
audit_completes a f before now Done once sound end held nothing = inl refl
audit_completes a f before now Memory once sound end held nothing = inr refl
audit_completes a f before now Usage once sound end held nothing = absurd end
audit_completes a f before now (WriteFault file) once sound end held nothing = absurd end
audit_completes a f before now (ReadFault file) once sound end held nothing = elim nothing [
  | inl counts ↦ absurd (counts.1.reads end.1.0)
  | inr sure ↦ (let none = end.1.1 sure.0 in let some = held.1 in cc)
]
audit_completes a f before now PrintFault once sound end held nothing = elim nothing [
  | inl counts ↦ absurd (counts.1.prints end.1.0)
  | inr sure ↦ absurd (end.1.1 sure.1)
]
audit_completes a f before now (Refused refusal) once sound end held nothing =
    absurd (audit_not_refused a f before now refusal once (tells_of f before now sound nothing) held end)

-- by the law that probes that can be told of are not refused
abbrev pub ProbesOnce : Type 0
ProbesOnce = (bytes : List ℕ) (order : ℕ) (text : List ℕ) (refusal : Refusal) → CanProbe bytes order text → IsUnprobed bytes order text refusal → Prim.⊥

-- probes of a network are not refused
cones_not_refused : (p : Probing) (f : Found) (before now : Counts) (refusal : Refusal) → AuditsOnce → ProbesOnce → IsTrue f.tells → Holds (f.holds p.out) (ProbesFit p f) → IsConesEnd p f before now (Refused refusal) → Prim.⊥
cones_not_refused p f before now (TooLong file) once probed tells (text, is, (list, asks, (net, asked, network, has))) (inl (named, long)) =
    let above = told_of f.tells (f.holds p.out) IsTooLong text is tells long in
    let short = network.0.0 in
    absurd (omega arith)
cones_not_refused p f before now (TooLong file) once probed tells (text, is, (list, asks, (net, asked, network, has))) (inr (fits, named, long)) =
    let above = told_of f.tells (f.holds p.probes) IsTooLong list asks tells long in
    let short = has.0 in
    absurd (omega arith)
cones_not_refused p f before now (BadProbe cause index) once probed tells (text, is, (list, asks, can)) end =
    let Bad : List ℕ → Type 0 = λ text. Holds (f.holds p.probes) (λ probes. IsUnprobed text p.order probes (BadProbe cause index)) in
    let bad = told_of f.tells (f.holds p.out) Bad text is tells end in
    let same : bad.0 ≡ list = (let e = bad.1 in cc) in
    let P : List ℕ → Type 0 = λ t. IsUnprobed text p.order t (BadProbe cause index) in
    probed text p.order list (BadProbe cause index) can (subst P same bad.2)
cones_not_refused p f before now refusal once probed tells (text, is, (list, asks, (net, asked, network, has))) end =
    once text p.order refusal (net, network.0, network.1) (told_of f.tells (f.holds p.out) (λ text. IsUnaudited text p.order refusal) text is tells end)

cones_completes : (p : Probing) (f : Found) (before now : Counts) (ended : Ended) → AuditsOnce → ProbesOnce → (IsTrue f.sound → IsTrue f.tells) → IsConesEnd p f before now ended → Holds (f.holds p.out) (ProbesFit p f) → NothingFails f before now → (ended ≡ Done) ⊎ (ended ≡ Memory)
cones_completes p f before now Done once probed sound end held nothing = inl refl
cones_completes p f before now Memory once probed sound end held nothing = inr refl
cones_completes p f before now Usage once probed sound end held nothing = absurd end
cones_completes p f before now (WriteFault file) once probed sound end held nothing = absurd end
cones_completes p f before now (ReadFault file) once probed sound (inl (named, fails)) (text, is, fits) nothing = elim nothing [
  | inl counts ↦ absurd (counts.1.reads fails.0)
  | inr sure ↦ (let none = fails.1 sure.0 in cc)
]
cones_completes p f before now (ReadFault file) once probed sound (inr (out, named, fails)) (text, is, (list, asks, can)) nothing = elim nothing [
  | inl counts ↦ absurd (counts.1.reads fails.0)
  | inr sure ↦ (let none = fails.1 sure.0 in cc)
]
cones_completes p f before now PrintFault once probed sound end held nothing = elim nothing [
  | inl counts ↦ absurd (counts.1.prints end.1.0)
  | inr sure ↦ absurd (end.1.1 sure.1)
]
cones_completes p f before now (Refused refusal) once probed sound end held nothing =
    absurd (cones_not_refused p f before now refusal once probed (tells_of f before now sound nothing) held end)

-- by the law that what can be compared is not refused
abbrev pub ComparesOnce : Type 0
ComparesOnce = (cells : List PlainCell) (bytes : List ℕ) (order : ℕ) (stimulus : List ℕ) (refusal : Refusal) → CanCompare cells bytes order stimulus → IsUncompared cells bytes order stimulus refusal → Prim.⊥

-- a netlist with a stimulus that can be compared is not refused
compared_not_refused : (c : Comparing) (f : Found) (before now : Counts) (refusal : Refusal) → SpellsOnce → MaskedOnce → ComparesOnce → IsTrue f.tells → HoldsBoth c.masking.library c.masking.net f.holds (ComparingFits c f) → IsComparedEnd c f before now (Refused refusal) → Prim.⊥
compared_not_refused c f before now (TooLong file) once masked compares tells (cells, are, (text, is, (stimulus, drives, can))) (inl (named, long)) =
    let above = told_of f.tells (f.holds c.masking.net) IsTooLong text is tells long in
    let short = short_original c.masking cells text can.0 in
    absurd (omega arith)
compared_not_refused c f before now (TooLong file) once masked compares tells held (inr (maskable, named, long)) =
    let found = both_hold once c.masking.library c.masking.net f.holds (ComparingFits c f) (IsMaskable c) held (maskable tells) in
    let drive = found.3 in
    let above = told_of f.tells (f.holds c.stimulus) IsTooLong drive.0 drive.1 tells long in
    let short = short_stimulus found.0 found.1 c.masking.order drive.0 drive.2 found.4 in
    absurd (omega arith)
compared_not_refused c f before now (BadStimulus cause stream step) once masked compares tells held end =
    let Bad : List PlainCell → List ℕ → Type 0 = λ cells text. Holds (f.holds c.stimulus) (λ stimulus. IsUncompared cells text c.masking.order stimulus (BadStimulus cause stream step)) in
    let found = both_hold once c.masking.library c.masking.net f.holds (ComparingFits c f) Bad held (end tells) in
    let fits = found.3 in
    let bad = found.4 in
    let same : bad.0 ≡ fits.0 = (let e = fits.1 in let d = bad.1 in cc) in
    let P : List ℕ → Type 0 = λ t. IsUncompared found.0 found.1 c.masking.order t (BadStimulus cause stream step) in
    compares found.0 found.1 c.masking.order fits.0 (BadStimulus cause stream step) fits.2 (subst P same bad.2)
compared_not_refused c f before now refusal once masked compares tells held end =
    let found = both_hold once c.masking.library c.masking.net f.holds (ComparingFits c f) (λ cells text. IsUnmasked cells text c.masking.order refusal) held (end tells) in
    masked found.0 found.1 c.masking.order refusal found.3.2.0 found.4

compared_completes : (c : Comparing) (f : Found) (before now : Counts) (ended : Ended) → SpellsOnce → MaskedOnce → ComparesOnce → (IsTrue f.sound → IsTrue f.tells) → IsComparedEnd c f before now ended → HoldsBoth c.masking.library c.masking.net f.holds (ComparingFits c f) → NothingFails f before now → (ended ≡ Done) ⊎ (ended ≡ Memory)
compared_completes c f before now Done once masked compares sound end held nothing = inl refl
compared_completes c f before now Memory once masked compares sound end held nothing = inr refl
compared_completes c f before now Usage once masked compares sound end held nothing = absurd end
compared_completes c f before now (ReadFault file) once masked compares sound (inl (named, fails)) (cells, are, (text, is, fits)) nothing = elim nothing [
  | inl counts ↦ absurd (counts.1.reads fails.0)
  | inr sure ↦ (let none = fails.1 sure.0 in cc)
]
compared_completes c f before now (ReadFault file) once masked compares sound (inr (maskable, named, fails)) (cells, are, (text, is, (stimulus, drives, can))) nothing = elim nothing [
  | inl counts ↦ absurd (counts.1.reads fails.0)
  | inr sure ↦ (let none = fails.1 sure.0 in cc)
]
compared_completes c f before now (WriteFault file) once masked compares sound end held nothing = elim nothing [
  | inl counts ↦ absurd (counts.1.writes end.2.0)
  | inr sure ↦ absurd (end.2.1 sure.0)
]
compared_completes c f before now PrintFault once masked compares sound end held nothing = elim nothing [
  | inl counts ↦ absurd (counts.1.prints end.1.0)
  | inr sure ↦ absurd (end.1.1 sure.1)
]
compared_completes c f before now (Refused refusal) once masked compares sound end held nothing =
    absurd (compared_not_refused c f before now refusal once masked compares (tells_of f before now sound nothing) held end)

-- completeness follows from the causes
pub completes : (r : Request) (f : Found) (before now : Counts) (ended : Ended) → SpellsOnce → MaskedOnce → RunsOnce → ReadsOnce → AuditsOnce → ProbesOnce → ComparesOnce → (IsTrue f.sound → IsTrue f.tells) → HasCause r f before now ended → IsComplete r f before now ended
completes (mask m) f before now ended once masked runs reads audits probed compares sound (inl words) (built, held) nothing = absurd (words.0 built)
completes (mask m) f before now ended once masked runs reads audits probed compares sound (inr (is, inl (named, at))) (built, (cells, are, text)) nothing = at_library m.library f before now ended cells once sound named at are nothing
completes (mask m) f before now ended once masked runs reads audits probed compares sound (inr (is, inr (has, behind))) (built, held) nothing = mask_completes m f before now ended once masked sound behind held nothing
completes (sim s) f before now ended once masked runs reads audits probed compares sound (inl (named, at)) (cells, are, text) nothing = at_library s.library f before now ended cells once sound named at are nothing
completes (sim s) f before now ended once masked runs reads audits probed compares sound (inr (has, behind)) held nothing = sim_completes s f before now ended once runs sound behind held nothing
completes (reporting r) f before now ended once masked runs reads audits probed compares sound end held nothing = report_completes r f before now ended reads sound end held nothing
completes (auditing a) f before now ended once masked runs reads audits probed compares sound end held nothing = audit_completes a f before now ended audits sound end held nothing
completes (probing p) f before now ended once masked runs reads audits probed compares sound end held nothing = cones_completes p f before now ended audits probed sound end held nothing
completes (comparing c) f before now ended once masked runs reads audits probed compares sound (inl words) (built, held) nothing = absurd (words.0 built)
completes (comparing c) f before now ended once masked runs reads audits probed compares sound (inr (is, inl (named, at))) (built, (cells, are, text)) nothing = at_library c.masking.library f before now ended cells once sound named at are nothing
completes (comparing c) f before now ended once masked runs reads audits probed compares sound (inr (is, inr (has, behind))) (built, held) nothing = compared_completes c f before now ended once masked compares sound behind held nothing

-- what was read is told of LIB and NET
pub told_both : (library net : List ℕ) (f : Found) (Fact : List PlainCell → List ℕ → Type 0) (cells : List PlainCell) (text : List ℕ) → (IsTrue f.tells → AreCells library f.holds cells) → (IsTrue f.tells → f.holds net ≡ Some text) → Fact cells text → ToldBoth library net f Fact
told_both library net f Fact cells text are is fact = λ t. (cells, are t, (text, is t, fact))

-- a refusal for which there is a reason ends `mask`
pub refused_mask : (m : Mask) (f : Found) (before now : Counts) (cells : List PlainCell) (text : List ℕ) → (IsTrue f.tells → AreCells m.library f.holds cells) → (IsTrue f.tells → f.holds m.net ≡ Some text)
    → (ended : Ended) → EndsBy (IsUnmasked cells text m.order) ended → IsMaskEnd m f before now ended
refused_mask m f before now cells text are is Memory h = tt
refused_mask m f before now cells text are is (Refused (TooLong file)) (short, design, spelled, fault, fails, told) = absurd (of_binding fault (TooLong file) told)
refused_mask m f before now cells text are is (Refused refusal) h = told_both m.library m.net f (λ cells text. IsUnmasked cells text m.order refusal) cells text are is h
refused_mask m f before now cells text are is _ h = absurd h

-- where the writing and the printing end `mask`
pub delivered_end : (m : Mask) (f : Found) (before now : Counts) (mid : ℕ) → before.writes ≤ mid → ToldBoth m.library m.net f (IsMasked m) → (ended : Ended) → IsDelivery m.out f.sound f.prints mid now.writes before.prints now.prints ended → IsMaskEnd m f before now ended
delivered_end m f before now mid le fit Done d = fit
delivered_end m f before now mid le fit (WriteFault file) d = (fit, d.0, ((let rose = d.1.0 in omega arith), d.1.1))
delivered_end m f before now mid le fit PrintFault d = (fit, d)
delivered_end m f before now mid le fit Memory d = tt
delivered_end m f before now mid le fit _ d = absurd d

-- a refusal for which there is a reason ends `sim` at the netlist
pub refused_sim : (s : Sim) (f : Found) (before now : Counts) (cells : List PlainCell) (text : List ℕ) → (IsTrue f.tells → AreCells s.library f.holds cells) → (IsTrue f.tells → f.holds s.net ≡ Some text)
    → (ended : Ended) → EndsBy (IsUnclocked cells text) ended → IsSimEnd s f before now ended
refused_sim s f before now cells text are is Memory h = tt
refused_sim s f before now cells text are is (Refused (TooLong file)) (short, design, spelled, fault, fails, told) = absurd (of_binding fault (TooLong file) told)
refused_sim s f before now cells text are is (Refused (BadStimulus cause stream step)) (short, design, spelled, fault, fails, told) = absurd (of_binding fault (BadStimulus cause stream step) told)
refused_sim s f before now cells text are is (Refused refusal) h = told_both s.library s.net f (λ cells text. IsUnclocked cells text refusal) cells text are is h
refused_sim s f before now cells text are is _ h = absurd h

-- where the reading of the stimulus ends `sim`
pub unread_stimulus : (s : Sim) (f : Found) (before now : Counts) (mid : ℕ) → before.reads ≤ mid → ToldBoth s.library s.net f IsRunnable → (ended : Ended) → IsReadEnd s.stimulus f.tells f.sound (f.holds s.stimulus) mid now.reads ended → IsSimEnd s f before now ended
unread_stimulus s f before now mid le runs (ReadFault file) (named, (rose, none)) = inr (runs, named, (omega arith, none))
unread_stimulus s f before now mid le runs Memory h = tt
unread_stimulus s f before now mid le runs (Refused (TooLong file)) (named, long) = inr (runs, named, long)
unread_stimulus s f before now mid le runs _ h = absurd h

-- a refusal of the stimulus ends `sim`
pub refused_stimulus : (s : Sim) (f : Found) (before now : Counts) (cells : List PlainCell) (text stimulus : List ℕ) (net : PlainNet) → (IsTrue f.tells → AreCells s.library f.holds cells) → (IsTrue f.tells → f.holds s.net ≡ Some text) → (IsTrue f.tells → f.holds s.stimulus ≡ Some stimulus)
    → IsClocked cells text net → (ended : Ended) → EndsBy (IsBadStimulus net None stimulus) ended → IsSimEnd s f before now ended
refused_stimulus s f before now cells text stimulus net are is drives clocked Memory h = tt
refused_stimulus s f before now cells text stimulus net are is drives clocked (Refused (BadStimulus cause stream step)) h = λ t. (cells, are t, (text, is t, (stimulus, drives t, (net, clocked, h))))
refused_stimulus s f before now cells text stimulus net are is drives clocked (Refused _) h = absurd h
refused_stimulus s f before now cells text stimulus net are is drives clocked _ h = absurd h

-- where the printing ends `sim`
pub printed_end : (s : Sim) (f : Found) (before now : Counts) → ToldBoth s.library s.net f (SimFits s f) → (ended : Ended) → IsPrintEnd f.prints before.prints now.prints ended → IsSimEnd s f before now ended
printed_end s f before now fits Done d = fits
printed_end s f before now fits PrintFault d = (fits, d)
printed_end s f before now fits Memory d = tt
printed_end s f before now fits _ d = absurd d

-- a run that ends at a file that it reads ends by `mask` or `sim`
pub read_end_mask : (m : Mask) (f : Found) (before now : Counts) (ended : Ended) → IsReadEnd m.net f.tells f.sound (f.holds m.net) before.reads now.reads ended → IsMaskEnd m f before now ended
read_end_mask m f before now (ReadFault file) h = h
read_end_mask m f before now Memory h = tt
read_end_mask m f before now (Refused (TooLong file)) h = h
read_end_mask m f before now _ h = absurd h

pub read_end_sim : (s : Sim) (f : Found) (before now : Counts) (ended : Ended) → IsReadEnd s.net f.tells f.sound (f.holds s.net) before.reads now.reads ended → IsSimEnd s f before now ended
read_end_sim s f before now (ReadFault file) h = inl h
read_end_sim s f before now Memory h = tt
read_end_sim s f before now (Refused (TooLong file)) h = inl h
read_end_sim s f before now _ h = absurd h

-- what follows of an error
pub err_map : {T E : Type 0} {P Q : E → Type 0} (r : Result T E) → IfErr r P → ((e : E) → P e → Q e) → IfErr r Q
err_map (Ok x) h f = tt
err_map (Err e) h f = f e h

-- a run that ends at a file that is read before the work
pub input_end_mask : (m : Mask) (f : Found) (before now : Counts) (ended : Ended) → IsInputEnd m.library m.net f before.reads now.reads ended → AtLibraryOr m.library f before now ended (IsMaskEnd m f before now ended)
input_end_mask m f before now ended (inl at) = inl at
input_end_mask m f before now ended (inr (has, read)) = inr (has, read_end_mask m f before now ended read)

pub input_end_sim : (s : Sim) (f : Found) (before now : Counts) (ended : Ended) → IsInputEnd s.library s.net f before.reads now.reads ended → AtLibraryOr s.library f before now ended (IsSimEnd s f before now ended)
input_end_sim s f before now ended (inl at) = inl at
input_end_sim s f before now ended (inr (has, read)) = inr (has, read_end_sim s f before now ended read)

-- a read's end, over a shelf that tells and holds the same
pub read_end_over : (name : List ℕ) (t u s v : Bool) (h k : Option (List ℕ)) (before now : ℕ) (ended : Ended) → t ≡ u → s ≡ v → h ≡ k → IsReadEnd name t s h before now ended → IsReadEnd name u v k before now ended
read_end_over name t u s v h k before now ended tells sounds holds end =
    let A : Bool → Type 0 = λ b. IsReadEnd name b s h before now ended in
    let B : Bool → Type 0 = λ b. IsReadEnd name u b h before now ended in
    let C : Option (List ℕ) → Type 0 = λ o. IsReadEnd name u v o before now ended in
    subst C holds (subst B sounds (subst A tells end))

-- what is masked is within the limits
pub is_within : (cells : List PlainCell) (text : List ℕ) (order : ℕ) (out file line : List ℕ) → Masks cells text order out file line → IsWithin cells text order
is_within cells text order out file line masks = (masks.original, masks.marks, masks.is_original, masks.no_leak, masks.fits, masks.narrow)

-- what was read and simulated is told of LIB, NET and STIM
pub told_stimulus : (s : Sim) (f : Found) (cells : List PlainCell) (text drive printed : List ℕ) (net : PlainNet) → (IsTrue f.tells → AreCells s.library f.holds cells) → (IsTrue f.tells → f.holds s.net ≡ Some text) → (IsTrue f.tells → f.holds s.stimulus ≡ Some drive)
    → IsClocked cells text net → IsSimulated net drive printed → ToldBoth s.library s.net f (SimFits s f)
told_stimulus s f cells text drive printed net are is drives clocked ran = λ t. (cells, are t, (text, is t, (drive, drives t, (net, ran.0, clocked, ran.1))))

pub sims_told : (s : Sim) (told : Bool) (old : Contents) (cells : List PlainCell) (text drive whole printed : List ℕ) (net : PlainNet) → printed ≡ whole
    → (IsTrue told → AreCells s.library old cells) → (IsTrue told → old s.net ≡ Some text) → (IsTrue told → old s.stimulus ≡ Some drive)
    → IsClocked cells text net → IsSimulated net drive whole
    → IsTrue told → HoldsBoth s.library s.net old (λ cells text. Holds (old s.stimulus) (λ stimulus. Sims cells text stimulus printed))
sims_told s told old cells text drive whole printed net e are is drives clocked ran t =
    (cells, are t, (text, is t, (drive, drives t, record { net = net; is_clocked = clocked; simulated = subst (λ p. IsSimulated net drive p) (sym e) ran })))

-- the order of a command that was read
pub order_fits : (words : List (List ℕ)) (r : Request) → Asks words r → HasOrder r
order_fits words (mask m) is = is.order_fits
order_fits words (sim s) is = tt
order_fits words (reporting r) is = tt
order_fits words (auditing a) is = is.order_fits
order_fits words (probing p) is = is.order_fits
order_fits words (comparing c) is = is.is_mask.order_fits

pub runs_once : ((cells : List PlainCell) (bytes : List ℕ) (m n : PlainNet) → IsClocked cells bytes m → IsClocked cells bytes n → m ≡ n)
    → ((cells : List PlainCell) (bytes : List ℕ) (net : PlainNet) (refusal : Refusal) → IsClocked cells bytes net → IsUnclocked cells bytes refusal → Prim.⊥)
    → ((cells : List PlainCell) (bytes stimulus : List ℕ) (refusal : Refusal) → CanSim cells bytes stimulus → IsUndriven cells bytes stimulus refusal → Prim.⊥) → RunsOnce
runs_once net clocked driven = record { net = net; clocked = clocked; driven = driven }

-- where the reading of the report's file ends `report`
pub unread_report : (r : Reporting) (f : Found) (before now : Counts) (ended : Ended) → IsReadEnd (report_name r.out) f.tells f.sound (f.holds (report_name r.out)) before.reads now.reads ended → IsReportEnd r f before now ended
unread_report r f before now (ReadFault file) h = h
unread_report r f before now Memory h = tt
unread_report r f before now (Refused (TooLong file)) h = h
unread_report r f before now _ h = absurd h

-- a text that is no report ends `report`
pub refused_report : (r : Reporting) (f : Found) (before now : Counts) (text : List ℕ) → (IsTrue f.tells → f.holds (report_name r.out) ≡ Some text) → (ended : Ended) → EndsBy (IsBadReport text) ended → IsReportEnd r f before now ended
refused_report r f before now text is Memory h = tt
refused_report r f before now text is (Refused (BadReport cause)) h = λ t. (text, is t, h)
refused_report r f before now text is (Refused _) h = absurd h
refused_report r f before now text is _ h = absurd h

-- where the printing ends `report`
pub line_end : (r : Reporting) (f : Found) (before now : Counts) → Told f.tells (f.holds (report_name r.out)) CanReport → (ended : Ended) → IsPrintEnd f.prints before.prints now.prints ended → IsReportEnd r f before now ended
line_end r f before now can Done d = can
line_end r f before now can PrintFault d = (can, d)
line_end r f before now can Memory d = tt
line_end r f before now can _ d = absurd d

-- where the reading of OUT ends `audit`
pub unread_audit : (a : Auditing) (f : Found) (before now : Counts) (ended : Ended) → IsReadEnd a.out f.tells f.sound (f.holds a.out) before.reads now.reads ended → IsAuditEnd a f before now ended
unread_audit a f before now (ReadFault file) h = h
unread_audit a f before now Memory h = tt
unread_audit a f before now (Refused (TooLong file)) h = h
unread_audit a f before now _ h = absurd h

-- a text that gives no network ends `audit`
pub refused_audit : (a : Auditing) (f : Found) (before now : Counts) (text : List ℕ) → (IsTrue f.tells → f.holds a.out ≡ Some text) → (ended : Ended) → EndsBy (IsUnaudited text a.order) ended → IsAuditEnd a f before now ended
refused_audit a f before now text is Memory h = tt
refused_audit a f before now text is (Refused (TooLong file)) (short, design, spelled, fault, fails, told) = absurd (of_binding fault (TooLong file) told)
refused_audit a f before now text is (Refused refusal) h = λ t. (text, is t, h)
refused_audit a f before now text is _ h = absurd h

-- where the printing ends `audit`
pub audit_end : (a : Auditing) (f : Found) (before now : Counts) → AuditFits a f → (ended : Ended) → IsPrintEnd f.prints before.prints now.prints ended → IsAuditEnd a f before now ended
audit_end a f before now can Done d = can
audit_end a f before now can PrintFault d = (can, d)
audit_end a f before now can Memory d = tt
audit_end a f before now can _ d = absurd d

-- where the reading of OUT ends `cones`
pub unread_out : (p : Probing) (f : Found) (before now : Counts) (ended : Ended) → IsReadEnd p.out f.tells f.sound (f.holds p.out) before.reads now.reads ended → IsConesEnd p f before now ended
unread_out p f before now (ReadFault file) h = inl h
unread_out p f before now Memory h = tt
unread_out p f before now (Refused (TooLong file)) h = inl h
unread_out p f before now _ h = absurd h

-- a text that gives no network ends `cones`
pub refused_out : (p : Probing) (f : Found) (before now : Counts) (text : List ℕ) → (IsTrue f.tells → f.holds p.out ≡ Some text) → (ended : Ended) → EndsBy (IsUnaudited text p.order) ended → IsConesEnd p f before now ended
refused_out p f before now text is Memory h = tt
refused_out p f before now text is (Refused (TooLong file)) (short, design, spelled, fault, fails, told) = absurd (of_binding fault (TooLong file) told)
refused_out p f before now text is (Refused (BadProbe cause index)) (short, design, spelled, fault, fails, told) = absurd (of_binding fault (BadProbe cause index) told)
refused_out p f before now text is (Refused refusal) h = λ t. (text, is t, h)
refused_out p f before now text is _ h = absurd h

-- where the reading of the probes ends `cones`
pub unread_probes : (p : Probing) (f : Found) (before now : Counts) (mid : ℕ) → before.reads ≤ mid → OutFits p f → (ended : Ended) → IsReadEnd p.probes f.tells f.sound (f.holds p.probes) mid now.reads ended → IsConesEnd p f before now ended
unread_probes p f before now mid le fits (ReadFault file) (named, (rose, none)) = inr (fits, named, (omega arith, none))
unread_probes p f before now mid le fits Memory h = tt
unread_probes p f before now mid le fits (Refused (TooLong file)) (named, long) = inr (fits, named, long)
unread_probes p f before now mid le fits _ h = absurd h

-- a refusal of the probes ends `cones`
pub refused_probes : (p : Probing) (f : Found) (before now : Counts) (text probes : List ℕ) (net : PlainNet) → (IsTrue f.tells → f.holds p.out ≡ Some text) → (IsTrue f.tells → f.holds p.probes ≡ Some probes)
    → IsNetwork text p.order net → (ended : Ended) → EndsBy (IsBadList net p.order probes) ended → IsConesEnd p f before now ended
refused_probes p f before now text probes net is asks network Memory h = tt
refused_probes p f before now text probes net is asks network (Refused (BadProbe cause index)) h = λ t. (text, is t, (probes, asks t, (net, network, h)))
refused_probes p f before now text probes net is asks network (Refused _) h = absurd h
refused_probes p f before now text probes net is asks network _ h = absurd h

-- where the printing ends `cones`
pub cones_end : (p : Probing) (f : Found) (before now : Counts) → ConesFit p f → (ended : Ended) → IsPrintEnd f.prints before.prints now.prints ended → IsConesEnd p f before now ended
cones_end p f before now fits Done d = fits
cones_end p f before now fits PrintFault d = (fits, d)
cones_end p f before now fits Memory d = tt
cones_end p f before now fits _ d = absurd d
