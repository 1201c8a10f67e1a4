-- What bytes determine.
use Rattle.std.proofs.Common.{◌≡◌, ◌≤◌, ◌∙◌, ℕ, List, [], ◌∷◌, None, map, ap, sym, subst, subst₂, inl, inr, arith, Err}
use Rattle.agm_net.specs.Plain.{PlainNet}
use Rattle.agm_net.specs.declared.mark.Mark.{Mark}
use Rattle.agm_net.specs.Loop.{IsLoop}
use Rattle.annotations.specs.Rules.{Rule, Broken, NoneBroken, IsFirstFault, annotation_rules, clock_rules, mark_of}
use Rattle.annotations.specs.declared.fault.AnnotationFault.{AnnotationFault}
use Rattle.cell_library.specs.Judged.{PlainCell}
use Rattle.verilog_reader.specs.Plain.{PlainModule, PlainDesign}
use Rattle.verilog_reader.specs.Grammar.{Spelled}
use Rattle.top_module.specs.Top.{IsTop}
use Rattle.net_binding.specs.Bound.{bound}
use Rattle.bound_items.specs.declared.fault.BindFault.{BindFault}
use Rattle.agema_answers.specs.declared.refusal.Refusal.{Refusal}
use Rattle.agema_answers.specs.declared.refusal.Refusal.TheVariants.{NetSyntax, Loop, BadAnnotation, Leak, TooLarge, TooWide}
use Rattle.agema_texts.specs.Original.{IsRead, IsOriginal, Keeps, IsUnread, BreaksRead}
use Rattle.secrecy_spread.specs.Leaks.{NoneLeaks}
use Rattle.agema_texts.specs.Masks.{CanMask, IsUnmasked, size_of, size_limit}
use Rattle.agema_texts.specs.Width.{IsWidth, width_limit}
use Rattle.agema_texts.specs.Sims.{IsClocked, IsUnclocked, CanSim, IsUndriven, IsBadStimulus}
use Rattle.agema_texts.proofs.Stimuli.{WritesOnce, one_stimulus}
use Rattle.agema_texts.proofs.Tops.{one_top}

-- by the law that bytes spell one design
abbrev pub SpellsOnce : Type 0
SpellsOnce = (bytes : List ℕ) (d e : PlainDesign) → Spelled bytes d → Spelled bytes e → d ≡ e

pub one_read : SpellsOnce → (cells : List PlainCell) (bytes : List ℕ) (d e : PlainDesign) (m n : PlainNet) → IsRead cells bytes d m → IsRead cells bytes e n → (d ≡ e) × (m ≡ n)
one_read once cells bytes d e m n first second =
    let same : d ≡ e = once bytes d e first.spelled second.spelled in
    let both = sym first.binds ∙ ap (bound cells) same ∙ second.binds in
    (same, cc)

pub same_original : SpellsOnce → (cells : List PlainCell) (bytes : List ℕ) (m n : PlainNet) (marks others : List Mark) → IsOriginal cells bytes m marks → IsOriginal cells bytes n others → (m ≡ n) × (marks ≡ others)
same_original once cells bytes m n marks others first second =
    let same = one_read once cells bytes first.design second.design m n first.read second.read in
    let T : PlainDesign → Type 0 = λ d. IsTop d first.top in
    let top : first.top ≡ second.top = one_top second.design first.top second.top (subst T same.0 first.is_top) second.is_top in
    (same.1, first.marks_are ∙ ap (λ t. map (mark_of t) m.ports) top ∙ ap (λ k. map (mark_of second.top) k.ports) same.1 ∙ sym second.marks_are)

-- no rule is broken, and the first broken one has a fault
none_first : (broken : Rule → Type 0) (rules : List Rule) (f : AnnotationFault) → NoneBroken broken rules → IsFirstFault broken rules f → Prim.⊥
none_first broken [] f none first = first
none_first broken (r ∷ rs) f none (inl (is, e)) = none.0 is
none_first broken (r ∷ rs) f none (inr (not, later)) = none_first broken rs f none.1 later

-- what keeps rules does not break them
keeps_not_breaks : SpellsOnce → (rules : PlainNet → List Rule) (cells : List PlainCell) (bytes : List ℕ) (design : PlainDesign) (net : PlainNet) (f : AnnotationFault) → IsRead cells bytes design net → Keeps rules design net → BreaksRead rules cells bytes f → Prim.⊥
keeps_not_breaks once rules cells bytes design net f read (top, is_top, none) (other, twin, reads, (unit, is_module, first)) =
    let same = one_read once cells bytes other design twin net reads read in
    let T : PlainDesign → Type 0 = λ d. IsTop d unit in
    let tops : unit ≡ top = one_top design unit top (subst T same.0 is_module) is_top in
    let B : PlainModule → PlainNet → Type 0 = λ m n. IsFirstFault (Broken m n) (rules n) f in
    none_first (Broken top net) (rules net) f none (subst₂ B tops same.1 first)

-- what binds breaks no rule of binding
binds_not_fails : SpellsOnce → (cells : List PlainCell) (bytes : List ℕ) (design : PlainDesign) (net : PlainNet) → IsRead cells bytes design net
    → (other : PlainDesign) → Spelled bytes other → (f : BindFault) → bound cells other ≡ Err f → Prim.⊥
binds_not_fails once cells bytes design net read other spelled f fails =
    let same : other ≡ design = once bytes other design spelled read.spelled in
    let both = sym fails ∙ ap (bound cells) same ∙ read.binds in
    cc

-- what is read is not unread
pub read_not_unread : SpellsOnce → (cells : List PlainCell) (bytes : List ℕ) (design : PlainDesign) (net : PlainNet) (r : Refusal) → IsRead cells bytes design net → IsUnread cells bytes r → Prim.⊥
read_not_unread once cells bytes design net (NetSyntax at) read (short, none, within) = none design read.spelled
read_not_unread once cells bytes design net (Loop names) read (short, other, spelled, twin, binds, wires, is_loop, named) =
    let same : other ≡ design = once bytes other design spelled read.spelled in
    let both = sym binds ∙ ap (bound cells) same ∙ read.binds in
    let nets : twin ≡ net = cc in
    let L : PlainNet → Type 0 = λ n. IsLoop n wires in
    read.no_loop wires (subst L nets is_loop)
read_not_unread once cells bytes design net _ read h = binds_not_fails once cells bytes design net read h.1 h.2 h.3 h.4

pub masked_not_refused : SpellsOnce → (cells : List PlainCell) (bytes : List ℕ) (order : ℕ) (r : Refusal) → CanMask cells bytes order → IsUnmasked cells bytes order r → Prim.⊥
masked_not_refused once cells bytes order (BadAnnotation f) (net, marks, is, no_leak, fits, narrow) breaks =
    keeps_not_breaks once annotation_rules cells bytes is.design net f is.read (is.top, is.is_top, is.none_broken) breaks
masked_not_refused once cells bytes order (Leak name) (net, marks, is, no_leak, fits, narrow) (other, others, original, (n, first, named)) =
    let same = same_original once cells bytes net other marks others is original in
    subst₂ NoneLeaks same.0 same.1 no_leak n first.0
masked_not_refused once cells bytes order (TooLarge n) (net, marks, is, no_leak, fits, narrow) (other, others, original, none, count, large) =
    let same = (same_original once cells bytes net other marks others is original).0 in
    let P : PlainNet → Type 0 = λ n. size_of n order ≤ size_limit in
    let small : size_of other order ≤ size_limit = subst P same fits in
    absurd (omega arith)
masked_not_refused once cells bytes order (TooWide n) (net, marks, is, no_leak, fits, narrow) (other, others, original, none, small, width, wide) =
    let same = same_original once cells bytes net other marks others is original in
    let W : PlainNet → List Mark → Type 0 = λ m ms. (bits : ℕ) → IsWidth m ms order bits → bits ≤ width_limit in
    let le : n ≤ width_limit = subst₂ W same.0 same.1 narrow n width in
    absurd (omega arith)
masked_not_refused once cells bytes order r (net, marks, is, no_leak, fits, narrow) unread = read_not_unread once cells bytes is.design net r is.read unread

pub same_clocked : SpellsOnce → (cells : List PlainCell) (bytes : List ℕ) (m n : PlainNet) → IsClocked cells bytes m → IsClocked cells bytes n → m ≡ n
same_clocked once cells bytes m n (d, first, keeps) (e, second, too) = (one_read once cells bytes d e m n first second).1

pub clocked_not_refused : SpellsOnce → (cells : List PlainCell) (bytes : List ℕ) (net : PlainNet) (r : Refusal) → IsClocked cells bytes net → IsUnclocked cells bytes r → Prim.⊥
clocked_not_refused once cells bytes net (BadAnnotation f) (design, read, keeps) breaks = keeps_not_breaks once clock_rules cells bytes design net f read keeps breaks
clocked_not_refused once cells bytes net r (design, read, keeps) unread = read_not_unread once cells bytes design net r read unread

pub driven_not_refused : SpellsOnce → WritesOnce → (cells : List PlainCell) (bytes stimulus : List ℕ) (r : Refusal) → CanSim cells bytes stimulus → IsUndriven cells bytes stimulus r → Prim.⊥
driven_not_refused once written cells bytes stimulus r (net, streams, clocked, has) (other, runs, bad) =
    let same : other ≡ net = same_clocked once cells bytes other net runs clocked in
    let B : PlainNet → Type 0 = λ n. IsBadStimulus n None stimulus r in
    one_stimulus written net None stimulus streams r has (subst B same bad)
