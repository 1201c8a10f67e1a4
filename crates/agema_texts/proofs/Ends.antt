-- How a reason for a refusal becomes another.
use Rattle.std.proofs.Common.{◌≡◌, ◌≤◌, ◌+◌, ◌⊎◌, ℕ, Bool, List, inl, inr, Result, Ok, Err, IfErr, ap, ap₂, sym, ◌∙◌, subst}
use Rattle.agm_net.specs.Plain.{PlainNet}
use Rattle.agm_net.specs.declared.mark.Mark.{Mark}
use Rattle.cell_library.specs.Judged.{PlainCell}
use Rattle.verilog_reader.specs.Plain.{PlainModule, PlainDesign}
use Rattle.annotations.specs.Rules.{Rule, Broken, IsFirstFault}
use Rattle.annotations.specs.declared.fault.AnnotationFault.{AnnotationFault}
use Rattle.annotations.specs.declared.fault.AnnotationFault.TheVariants as annotation
use Rattle.top_module.specs.Top.{IsTop}
use Rattle.bound_items.specs.declared.fault.BindFault.{BindFault}
use Rattle.bound_items.specs.declared.fault.BindFault.TheVariants as fault
use Rattle.agema_answers.specs.Faults.{bind_ended}
use Rattle.agema_answers.specs.declared.ended.Ended.{Ended}
use Rattle.agema_answers.specs.declared.ended.Ended.TheVariants.{Done, Usage, ReadFault, WriteFault, PrintFault, Memory, Refused}
use Rattle.agema_answers.specs.declared.refusal.Refusal.{Refusal}
use Rattle.agema_answers.specs.declared.refusal.Refusal.TheVariants as refusal
use Rattle.agema_answers.specs.declared.refusal.Refusal.TheVariants.{NetSyntax, Loop, BadAnnotation, Leak, TooLarge, TooWide}
use Rattle.agema_texts.specs.Original.{IsRead, IsOriginal, EndsBy}
use Rattle.secrecy_spread.specs.Leaks.{NoneLeaks}
use Rattle.agema_texts.specs.Marked.{IsMarked, IsUnmarked, IsLeaking, IsOverSize, IsTooWide, IsTooBig, annotation_ended}
use Rattle.share_wiring.specs.ReportOf.{streams_of}
use Rattle.share_wiring.specs.Same.{TellsSecrets}
use Rattle.share_wiring.specs.declared.report.Report.{Report}
use Rattle.agema_texts.specs.Comparing.{IsMade, IsMadeOf}
use Rattle.agema_texts.specs.Masks.{IsUnmasked, size_of, size_limit}
use Rattle.agema_texts.specs.Width.{IsNarrow, NaiveCosts}

ends_by : (P Q : Refusal → Type 0) → ((r : Refusal) → P r → Q r) → (ended : Ended) → EndsBy P ended → EndsBy Q ended
ends_by P Q f (Refused r) h = f r h
ends_by P Q f Memory h = tt
ends_by P Q f Done h = absurd h
ends_by P Q f Usage h = absurd h
ends_by P Q f (ReadFault file) h = absurd h
ends_by P Q f (WriteFault file) h = absurd h
ends_by P Q f PrintFault h = absurd h

-- a call that ends for one reason ends for another
pub err_by : {X : Type 0} (P Q : Refusal → Type 0) → ((r : Refusal) → P r → Q r) → (r : Result X Ended) → IfErr r (EndsBy P) → IfErr r (EndsBy Q)
err_by P Q f (Ok x) h = h
err_by P Q f (Err e) h = ends_by P Q f e h

-- the same of a fault that is handed on
pub handed_by : {X : Type 0} (P Q : Refusal → Type 0) (r : Result X Ended) (f : Ended) → (y : Ended) × (r ≡ Err y) × (y ≡ f) → ((x : Refusal) → P x → Q x) → EndsBy P f → IfErr r (EndsBy Q)
handed_by {X} P Q r f told weaker h =
    let S : Result X Ended → Type 0 = λ s. IfErr s (EndsBy Q) in
    subst S (sym (told.1 ∙ ap Err told.2)) (ends_by P Q weaker f h)

-- the refusals that tell a fault of binding
abbrev pub IsOfBinding : Refusal → Type 0
IsOfBinding (refusal.UnknownCell i c) = Unit {0}
IsOfBinding (refusal.UnknownPin i p) = Unit {0}
IsOfBinding (refusal.UnknownWire n) = Unit {0}
IsOfBinding (refusal.Driven w d) = Unit {0}
IsOfBinding (refusal.Width l r) = Unit {0}
IsOfBinding (refusal.Top n) = Unit {0}
IsOfBinding (refusal.Recursive m) = Unit {0}
IsOfBinding (refusal.BarredCell i c b) = Unit {0}
IsOfBinding (refusal.Clash n) = Unit {0}
IsOfBinding _ = Prim.⊥

pub of_binding : (f : BindFault) (r : Refusal) → bind_ended f ≡ Refused r → IsOfBinding r
of_binding (fault.UnknownCell i c) r h = let same : refusal.UnknownCell i c ≡ r = cc in subst IsOfBinding same tt
of_binding (fault.UnknownPin i p) r h = let same : refusal.UnknownPin i p ≡ r = cc in subst IsOfBinding same tt
of_binding (fault.UnknownWire n) r h = let same : refusal.UnknownWire n ≡ r = cc in subst IsOfBinding same tt
of_binding (fault.Driven w d) r h = let same : refusal.Driven w d ≡ r = cc in subst IsOfBinding same tt
of_binding (fault.Width x y) r h = let same : refusal.Width x y ≡ r = cc in subst IsOfBinding same tt
of_binding (fault.Top n) r h = let same : refusal.Top n ≡ r = cc in subst IsOfBinding same tt
of_binding (fault.Recursive m) r h = let same : refusal.Recursive m ≡ r = cc in subst IsOfBinding same tt
of_binding (fault.BarredCell i c b) r h = let same : refusal.BarredCell i c b ≡ r = cc in subst IsOfBinding same tt
of_binding (fault.Clash n) r h = let same : refusal.Clash n ≡ r = cc in subst IsOfBinding same tt
of_binding fault.Memory r h = cc

-- an output that leaks
pub leaking_unmasked : (cells : List PlainCell) (bytes : List ℕ) (order : ℕ) (net : PlainNet) (marks : List Mark) → IsOriginal cells bytes net marks → (r : Refusal) → IsLeaking net marks r → IsUnmasked cells bytes order r
leaking_unmasked cells bytes order net marks is (Leak name) (n, first, named) = (net, marks, is, (n, first, named))
leaking_unmasked cells bytes order net marks is _ (n, first, named) = absurd named

-- what is too large or too wide
pub too_big_unmasked : (cells : List PlainCell) (bytes : List ℕ) (order : ℕ) (net : PlainNet) (marks : List Mark) → IsOriginal cells bytes net marks → NoneLeaks net marks → (r : Refusal) → IsTooBig net marks order r → IsUnmasked cells bytes order r
too_big_unmasked cells bytes order net marks is none (TooLarge n) h = (net, marks, is, none, h.0, h.1)
too_big_unmasked cells bytes order net marks is none (TooWide n) h = (net, marks, is, none, h.0, h.1, h.2)
too_big_unmasked cells bytes order net marks is none _ h = absurd h

pub over_size : (net : PlainNet) (marks : List Mark) (order : ℕ) (r : Refusal) → IsOverSize net order r → IsTooBig net marks order r
over_size net marks order (TooLarge n) h = h
over_size net marks order _ h = absurd h

pub too_wide : (net : PlainNet) (marks : List Mark) (order gadgets latency : ℕ) (flags : List Bool) → size_of net order ≤ size_limit → NaiveCosts net marks gadgets latency
    → TellsSecrets net marks flags → (r : Refusal) → IsTooWide order gadgets flags r → IsTooBig net marks order r
too_wide net marks order gadgets latency flags fits costs told (TooWide bits) h = (fits, (gadgets, latency, flags, costs, told, h.0), h.1)
too_wide net marks order gadgets latency flags fits costs told _ h = absurd h

-- an original, by what its steps tell
pub original_of : (cells : List PlainCell) (bytes : List ℕ) (design : PlainDesign) (net : PlainNet) (marks : List Mark) → IsRead cells bytes design net → IsMarked design net marks → IsOriginal cells bytes net marks
original_of cells bytes design net marks read (top, is_top, none, are) = record { design = design; top = top; read = read; is_top = is_top; none_broken = none; marks_are = are }

-- a rule that is broken ends a run with its fault, or memory is wanted
pub breaks_ended : (rules : PlainNet → List Rule) (design : PlainDesign) (net : PlainNet) (top : PlainModule) → IsTop design top → (f : AnnotationFault)
    → (f ≡ annotation.Memory) ⊎ IsFirstFault (Broken top net) (rules net) f → EndsBy (IsUnmarked rules design net) (annotation_ended f)
breaks_ended rules design net top is annotation.Memory (inl e) = tt
breaks_ended rules design net top is annotation.Memory (inr first) = tt
breaks_ended rules design net top is (annotation.Reserved p) (inl e) = cc
breaks_ended rules design net top is (annotation.Reserved p) (inr first) = (top, is, first)
breaks_ended rules design net top is (annotation.Value p) (inl e) = cc
breaks_ended rules design net top is (annotation.Value p) (inr first) = (top, is, first)
breaks_ended rules design net top is (annotation.Twice p) (inl e) = cc
breaks_ended rules design net top is (annotation.Twice p) (inr first) = (top, is, first)
breaks_ended rules design net top is (annotation.SecondClock p) (inl e) = cc
breaks_ended rules design net top is (annotation.SecondClock p) (inr first) = (top, is, first)
breaks_ended rules design net top is annotation.NoSecure (inl e) = cc
breaks_ended rules design net top is annotation.NoSecure (inr first) = (top, is, first)
breaks_ended rules design net top is annotation.NoClock (inl e) = cc
breaks_ended rules design net top is annotation.NoClock (inr first) = (top, is, first)
breaks_ended rules design net top is (annotation.ClockUse w) (inl e) = cc
breaks_ended rules design net top is (annotation.ClockUse w) (inr first) = (top, is, first)

-- what is made of the net of an original is made of what bytes give
pub made_all : (cells : List PlainCell) (bytes : List ℕ) (order : ℕ) (net : PlainNet) (marks : List Mark) (made : PlainNet) (report : Report) (out : List ℕ) → IsOriginal cells bytes net marks → NoneLeaks net marks
    → (size_of net order ≤ size_limit) × IsNarrow net marks order → IsMadeOf net marks order made report out → IsMade cells bytes order net made report out
made_all cells bytes order net marks made report out is none fits of =
    let reported = of.masks.reported in
    let same = of.report_is in
    let T : Report → Type 0 = λ r. (r.period ≡ r.latency + 1) × (r.streams ≡ streams_of r.balance r.period) in
    let turns : T of.masks.report = (
      reported.period_is ∙ ap (λ l. l + 1) (sym reported.latency_is),
      reported.streams_are ∙ ap₂ streams_of (sym reported.balance_is) (sym reported.period_is),
    ) in
    let runs = subst T same turns in
    record {
      marks = marks;
      is_original = is;
      no_leak = none;
      fits = fits.0;
      narrow = fits.1;
      made_of = of;
      runs = record { no_loop = is.read.no_loop; made_no_loop = of.no_loop; period = runs.0; turns = runs.1 };
    }
