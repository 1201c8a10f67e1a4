-- The port that is marked as the clock is the net's clock.
use Rattle.std.proofs.Common.{◌≡◌, ℕ, zero, suc, ◌+◌, ◌<◌, Bool, true, false, not, ◌&&◌, ◌||◌, cond, Option, Some, None, List, [], ◌∷◌, ◌++◌, length, get_or, position, refl, sym, ap, ap₂, subst, ◌∙◌, arith, zero-add, add-zero}
use Rattle.std.specs.List.{list_any, flat_map, enumerate_from}
use Rattle.std.specs.Option.{option_map_or}
use Rattle.std.specs.Prelude.{◌↔◌, slice_get, nat_lt, codes, ◌↔◌}
use Rattle.std.proofs.lemmas.Bool.{cases_order, both_ways, lt-ltb}
use Rattle.std.proofs.lemmas.List.Folds.{list_any-from_Any}
use Rattle.std.proofs.lemmas.List.Quantifiers.{position-Some}
use Rattle.std.proofs.lemmas.Option.{slice_get_within, get_or_from_slice_get}
use mathlib.Core.Logic.{⊎_elim}
use Rattle.agm_net.proofs.Finds.{not_any}
use Rattle.agm_net.specs.Plain.{PlainNet}
use Rattle.agm_net.specs.WellFormed.{is_clock_port}
use Rattle.agm_net.specs.declared.port.Port.{Port}
use Rattle.annotations.proofs.Marked.{differ_two}
use Rattle.annotations.proofs.Verdict.{and_parts}
use Rattle.annotations.specs.Asked.{two_of}
use Rattle.annotations.specs.Rules.{mark_of, Rule, no_secure, marks_of, is_marked, Broken, rules_of, use_rules, annotation_rules, NoneBroken}
use Rattle.top_module.proofs.Placed.{position_map}
use Rattle.top_module.specs.Bound.{HasPortsOf, face_of_port, face_of_name, Face}
use Rattle.top_module.specs.Marks.{marks_before, says, is_unknown, mark_set}
use Rattle.top_module.specs.Ports.{is_single_input}
use Rattle.top_module.specs.Top.{marked}
use Rattle.verilog_reader.specs.Plain.{PlainModule}
use Rattle.agm_net.specs.declared.mark.Mark.TheVariants as mark

none_first : (broken : Rule → Type 0) (as' bs : List Rule) → NoneBroken broken (as' ++ bs) → NoneBroken broken as'
none_first broken [] bs none = tt
none_first broken (r ∷ rs) bs none = (none.0, none_first broken rs bs none.1)

none_rest : (broken : Rule → Type 0) (as' bs : List Rule) → NoneBroken broken (as' ++ bs) → NoneBroken broken bs
none_rest broken [] bs none = none
none_rest broken (r ∷ rs) bs none = none_rest broken rs bs none.1

-- where no rule is broken, none of a port is
port_none : (broken : Rule → Type 0) (n k : ℕ) (ports : List Port) (p : Port) → NoneBroken broken (flat_map rules_of (enumerate_from n ports)) → slice_get ports k ≡ Some p → NoneBroken broken (rules_of (n + k, p))
port_none broken n k [] p none at = absurd (cc)
port_none broken n zero (q ∷ ps) p none at =
    let same : q ≡ p = cc in
    subst (λ (e : ℕ × Port). NoneBroken broken (rules_of e)) (ap₂ (λ (i : ℕ) (r : Port). (i, r)) (sym (add-zero n)) same) (none_first broken (rules_of (n, q)) (flat_map rules_of (enumerate_from (n + 1) ps)) none)
port_none broken n (suc k) (q ∷ ps) p none at =
    subst (λ (i : ℕ). NoneBroken broken (rules_of (i, p))) (omega arith) (port_none broken (n + 1) k ps p (none_rest broken (rules_of (n, q)) (flat_map rules_of (enumerate_from (n + 1) ps)) none) at)

-- whether a port is a clock by its declarations
abbrev could : PlainModule → Port → Bool
could top p = is_clock_port p && is_marked (codes "clock") top p

abbrev face_could : PlainModule → Face → Bool
face_could top f = option_map_or is_single_input f.1 false && list_any (says (codes "clock")) (marks_before top f.0)

or_false : (a b : Bool) → (a || b) ≡ false → (a ≡ false) × (b ≡ false)
or_false true b h = absurd (cc)
or_false false b h = (refl, h)

not_true : (b : Bool) → (b ≡ true → ⊥) → b ≡ false
not_true true h = absurd (h refl)
not_true false h = refl

marked_clock : (s p c : Bool) → cond s mark.Secure (cond p mark.Public (cond c mark.Clock mark.Unmarked)) ≡ mark.Clock → c ≡ true
marked_clock true p c h = absurd (cc)
marked_clock false true c h = absurd (cc)
marked_clock false false true h = refl
marked_clock false false false h = absurd (cc)

clock_marked : (s p c : Bool) → ((s && p) || ((s && c) || (p && c))) ≡ false → c ≡ true → cond s mark.Secure (cond p mark.Public (cond c mark.Clock mark.Unmarked)) ≡ mark.Clock
clock_marked true true c h k = absurd (cc)
clock_marked true false true h k = absurd (cc)
clock_marked true false false h k = absurd (cc)
clock_marked false true true h k = absurd (cc)
clock_marked false true false h k = absurd (cc)
clock_marked false false true h k = refl
clock_marked false false false h k = absurd (cc)

module _ (top : PlainModule) (net : PlainNet) (bound : HasPortsOf top net) (none : NoneBroken (Broken top net) (annotation_rules net)) where
  -- the clock is the first port that could be one
  clock_is : net.clock ≡ position (could top) net.ports
  clock_is =
      bound.clock
      ∙ (sym (position_map (face_could top) (face_of_name top) top.ports)
      ∙ (ap (position (face_could top)) (sym bound.ports) ∙ position_map (face_could top) face_of_port net.ports))

  module _ (k : ℕ) (p : Port) (at : slice_get net.ports k ≡ Some p) where
    of_port : NoneBroken (Broken top net) (rules_of (k, p))
    of_port = subst (λ (i : ℕ). NoneBroken (Broken top net) (rules_of (i, p))) (zero-add k) (port_none (Broken top net) 0 k net.ports p (none_first (Broken top net) (flat_map rules_of (enumerate_from 0 net.ports)) (no_secure ∷ use_rules net) none) at)

    within : k < length net.ports
    within = slice_get_within net.ports k p at

    here : get_or net.ports k p ≡ p
    here = get_or_from_slice_get net.ports k p p at

    no_wrong : (list_any is_unknown (marks_of top p) || (is_marked (codes "clock") top p && not (is_clock_port p))) ≡ false
    no_wrong = not_true _ of_port.1.0

    could_be : is_marked (codes "clock") top p ≡ true → could top p ≡ true
    could_be marked = fit (is_clock_port p) (is_marked (codes "clock") top p) (or_false _ _ no_wrong).1 marked
      where
        fit : (f m : Bool) → (m && not f) ≡ false → m ≡ true → (f && m) ≡ true
        fit true true h e = refl
        fit true false h e = absurd (cc)
        fit false true h e = absurd (cc)
        fit false false h e = absurd (cc)

    -- a port with the mark is the clock
    is_clock_of : is_marked (codes "clock") top p ≡ true → net.clock ≡ Some k
    is_clock_of marked = found (position (could top) net.ports) refl
      where
        found : (o : Option ℕ) → position (could top) net.ports ≡ o → net.clock ≡ Some k
        found None e =
            let any = list_any-from_Any (could top) net.ports (k, p, within, here, could_be marked) in
            absurd (both_ways (list_any (could top) net.ports) (not_any (could top) net.ports e) any)
        found (Some c) e =
            let place = position-Some (could top) net.ports c p e in
            let is : net.clock ≡ Some c = clock_is ∙ e in
            ⊎_elim
            (λ same. is ∙ ap Some same)
            (λ other. ⊎_elim
            (λ before. absurd (of_port.1.1.1.0 (ap₂ (λ (b : Bool) (o : Option ℕ). b && option_map_or (λ (j : ℕ). nat_lt j k) o false) marked is ∙ lt-ltb c k before)))
            (λ behind. absurd (both_ways (could top p) (ap (could top) (sym here) ∙ place.2 k behind) (could_be marked))) other)
            (cases_order c k)

    -- and the clock has the mark
    has_clock_mark : net.clock ≡ Some k → is_marked (codes "clock") top p ≡ true
    has_clock_mark is =
        let place = position-Some (could top) net.ports k p (sym clock_is ∙ is) in
        (and_parts (is_clock_port p) (is_marked (codes "clock") top p) (ap (could top) (sym here) ∙ place.1)).1

    one_mark : two_of (mark_set (marks_of top p)) ≡ false
    one_mark = not_true _ (λ two. of_port.1.1.0 (differ_two (marks_of top p) two))

    pub marked_iff : (mark_of top p ≡ mark.Clock) ↔ (net.clock ≡ Some k)
    marked_iff = (
      λ m. is_clock_of (marked_clock (is_marked (codes "secure") top p) (is_marked (codes "public") top p) (is_marked (codes "clock") top p) m),
      λ is. clock_marked (is_marked (codes "secure") top p) (is_marked (codes "public") top p) (is_marked (codes "clock") top p) one_mark (has_clock_mark is),
    )
