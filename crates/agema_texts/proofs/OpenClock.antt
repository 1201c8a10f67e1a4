-- The clock of a net that keeps the rules of annotations is not marked secure.
use Rattle.std.proofs.Common.{◌≡◌, ◌+◌, ℕ, zero, suc, Bool, true, false, ◌&&◌, ◌||◌, cond, List, [], ◌∷◌, ◌++◌, length, Option, Some, None, map, position, get_or, refl, sym, ap, ap₂, subst, ◌∙◌, arith, zero-add, add-zero}
use Rattle.std.specs.Prelude.{slice_get, codes}
use Rattle.std.specs.List.{flat_map, enumerate_from, list_any}
use Rattle.std.specs.Option.{option_map_or, option_map}
use Rattle.std.proofs.lemmas.List.{length-map}
use Rattle.std.proofs.lemmas.List.Quantifiers.{position-Some}
use Rattle.std.proofs.lemmas.Option.{slice_get-map, get_or_from_slice_get}
use Rattle.agm_net.specs.Plain.{PlainNet}
use Rattle.agm_net.specs.declared.mark.Mark.{Mark}
use Rattle.agm_net.specs.declared.mark.Mark.TheVariants as mark
use Rattle.agm_net.specs.declared.port.Port.{Port}
use Rattle.annotations.proofs.Marked.{differ_two}
use Rattle.annotations.specs.Asked.{two_of}
use Rattle.annotations.specs.Rules.{Rule, Broken, NoneBroken, marks_of, is_marked, mark_of, rules_of, use_rules, no_secure, annotation_rules}
use Rattle.secrecy_spread.specs.Clock.{ClockIsOpen}
use Rattle.top_module.specs.Marks.{mark_set, says}
use Rattle.top_module.specs.Ports.{is_clock, is_single_input, facts_of, kind_of}
use Rattle.verilog_reader.specs.Plain.{PlainModule}
use Rattle.cell_library.specs.Judged.{PlainCell}
use Rattle.verilog_reader.specs.Plain.{PlainDesign}
use Rattle.agema_texts.specs.Original.{IsRead}
use Rattle.agema_texts.specs.Marked.{IsMarked}
use Rattle.agema_texts.proofs.Tops.{HasFace, bound_face}

pub none_first : (broken : Rule → Type 0) (first rest : List Rule) → NoneBroken broken (first ++ rest) → NoneBroken broken first
none_first broken [] rest none = tt
none_first broken (r ∷ rs) rest none = (none.0, none_first broken rs rest none.1)

pub none_rest : (broken : Rule → Type 0) (first rest : List Rule) → NoneBroken broken (first ++ rest) → NoneBroken broken rest
none_rest broken [] rest none = none
none_rest broken (r ∷ rs) rest none = none_rest broken rs rest none.1

-- no rule of a port is broken
port_none : (broken : Rule → Type 0) (n k : ℕ) (ports : List Port) (p : Port) → NoneBroken broken (flat_map rules_of (enumerate_from n ports)) → slice_get ports k ≡ Some p → NoneBroken broken (rules_of (n + k, p))
port_none broken n k [] p none at = absurd (cc)
port_none broken n zero (q ∷ ps) p none at =
    let same : q ≡ p = cc in
    subst (λ (e : ℕ × Port). NoneBroken broken (rules_of e)) (ap₂ (λ (i : ℕ) (r : Port). (i, r)) (sym (add-zero n)) same) (none_first broken (rules_of (n, q)) (flat_map rules_of (enumerate_from (n + 1) ps)) none)
port_none broken n (suc k) (q ∷ ps) p none at =
    subst (λ (i : ℕ). NoneBroken broken (rules_of (i, p))) (omega arith) (port_none broken (n + 1) k ps p (none_rest broken (rules_of (n, q)) (flat_map rules_of (enumerate_from (n + 1) ps)) none) at)

-- where a map has an item there is one that gives it
map_at : {X Y : Type 0} (f : X → Y) (xs : List X) (k : ℕ) (y : Y) → slice_get (map f xs) k ≡ Some y → (x : X) × (slice_get xs k ≡ Some x) × (f x ≡ y)
map_at f [] k y h = absurd (cc)
map_at f (x ∷ xs) zero y h = (x, refl, cc)
map_at f (x ∷ xs) (suc k) y h = map_at f xs k y h

and_second : (a b : Bool) → a && b ≡ true → b ≡ true
and_second true b h = h
and_second false b h = absurd (cc)

secure_mark : (s p c : Bool) → cond s mark.Secure (cond p mark.Public (cond c mark.Clock mark.Unmarked)) ≡ mark.Secure → s ≡ true
secure_mark true p c h = refl
secure_mark false true c h = absurd (cc)
secure_mark false false true h = absurd (cc)
secure_mark false false false h = absurd (cc)

both_marks : (s p c : Bool) → s ≡ true → c ≡ true → ((s && p) || ((s && c) || (p && c))) ≡ true
both_marks true true true h k = refl
both_marks true false true h k = refl
both_marks true p false h k = absurd (cc)
both_marks false p c h k = absurd (cc)

pub clock_open : (top : PlainModule) (net : PlainNet) → HasFace top net → NoneBroken (Broken top net) (annotation_rules net) → ClockIsOpen net (map (mark_of top) net.ports)
clock_open top net face none c is secure =
    let found = map_at (mark_of top) net.ports c mark.Secure secure in
    let p = found.0 in
    let marks = marks_of top p in
    let listed : slice_get top.ports c ≡ Some p.name = ap (λ ns. slice_get ns c) (sym face.names) ∙ slice_get-map (λ (q : Port). q.name) net.ports c ∙ ap (option_map (λ (q : Port). q.name)) found.1 in
    let place = position-Some (λ name. is_clock (facts_of top name)) top.ports c p.name (sym face.clock ∙ is) in
    let here : get_or top.ports c p.name ≡ p.name = get_or_from_slice_get top.ports c p.name p.name listed in
    let clock : is_clock (facts_of top p.name) ≡ true = ap (λ name. is_clock (facts_of top name)) (sym here) ∙ place.1 in
    let marked : list_any (says (codes "clock")) marks ≡ true = and_second (option_map_or is_single_input (kind_of top p.name) false) (list_any (says (codes "clock")) marks) clock in
    let first : list_any (says (codes "secure")) marks ≡ true = secure_mark (is_marked (codes "secure") top p) (is_marked (codes "public") top p) (is_marked (codes "clock") top p) found.2 in
    let rules = port_none (Broken top net) 0 c net.ports p (none_first (Broken top net) (flat_map rules_of (enumerate_from 0 net.ports)) (no_secure ∷ use_rules net) none) found.1 in
    rules.1.1.0 (differ_two marks (both_marks (list_any (says (codes "secure")) marks) (list_any (says (codes "public")) marks) (list_any (says (codes "clock")) marks) first marked))

-- what `spread` asks of the marks of a net that was read
pub marked_open : (cells : List PlainCell) (bytes : List ℕ) (design : PlainDesign) (net : PlainNet) (marks : List Mark) → IsRead cells bytes design net → IsMarked design net marks → (length marks ≡ length net.ports) × ClockIsOpen net marks
marked_open cells bytes design net marks read (top, is_top, none, are) =
    let face = bound_face cells design net top read.binds is_top in
    (ap (λ ms. length ms) are ∙ length-map net.ports (mark_of top), subst (ClockIsOpen net) (sym are) (clock_open top net face none))
