-- What the checks say of a net's wires.
use Rattle.std.proofs.Common.{◌≡◌, ℕ, ◌+◌, ◌<◌, ◌≤◌, true, List, Option, Some, None, length, get_or, min, map, refl, ap, ◌∙◌, arith}
use Rattle.std.specs.Prelude.{◌==◌, filter, MatchOption}
use Rattle.std.specs.List.{flat_map}
use Rattle.std.proofs.lemmas.Bool.{both_ways, and_parts, and_from, not-true, not_from_false, eqb-true, eqb-false, eq-eqb, ne_eqb, cases_lt}
use mathlib.Core.Logic.{⊎_elim}
use Rattle.agm_net.specs.Plain.{PlainNet, Line, Stored, plain, line_of, stored_of, is_input}
use Rattle.agm_net.specs.WellFormed.{IsRight, drivers}
use Rattle.agm_net.specs.Checks.{Texts, IsFirstRepeated, uses, driven, is_once, is_new, OnceBelow, IsFirstNotOnce, IsFirstWrong, AllRight}
use Rattle.agm_net.specs.declared.port.Port.{Port}
use Rattle.agm_net.specs.declared.expr.Equation.{Equation}
use Rattle.agm_net.specs.declared.expr.Register.{Register}
use Rattle.agm_net.proofs.Counts.{count, count-append, count-map, uses-length, uses-count}
use Rattle.agm_net.proofs.Repeats.{new-from_test, test-from_new}

module _ (ports : List Port) (wires : Texts) (equations : List Equation) (registers : List Register) (clock : Option ℕ) where
  abbrev net : PlainNet
  net = plain ports wires equations registers clock

  abbrev ways : List ℕ
  ways = driven ports equations registers

  driven-count : (w : ℕ) → count w ways ≡ drivers net w
  driven-count w =
      let inputs = flat_map (λ (p : Port). p.bits) (filter is_input ports) in
      let outputs = map (λ (r : Register). r.q) registers in
      count-append w inputs _
      ∙ ap (λ (n : ℕ). count w inputs + n)
      (count-append w (map (λ (e : Equation). e.wire) equations) outputs
      ∙ cc (
        count-map (λ (v : ℕ). v == w) (λ (e : Equation). e.wire) equations,
        count-map (λ (l : Line). l.0 == w) line_of equations,
        count-map (λ (v : ℕ). v == w) (λ (r : Register). r.q) registers,
        count-map (λ (r : Stored). r.q == w) stored_of registers,
      ))

  module _ (counts : List ℕ) (counted : counts ≡ uses (length wires) ways) (repeated : ℕ) (first : IsFirstRepeated wires repeated) where
    long : length counts ≡ length wires
    long = ap length counted ∙ uses-length (length wires) ways

    at : (w : ℕ) → w < length wires → get_or counts w 0 ≡ min (drivers net w) 255
    at w within = ap (λ (cs : List ℕ). get_or cs w 0) counted ∙ (uses-count (length wires) ways w within ∙ ap (λ (n : ℕ). min n 255) (driven-count w))

    before_repeated : (n : ℕ) → n ≤ length wires → OnceBelow counts repeated n → n ≤ repeated
    before_repeated n within once =
        ⊎_elim
        (λ early. let test = and_parts _ _ (once repeated early) in absurd (eqb-false repeated repeated (not-true _ test.0) refl))
        (λ late. late)
        (cases_lt repeated n)

    right_below : (n : ℕ) → n ≤ length wires → OnceBelow counts repeated n → (v : ℕ) → v < n → IsRight net v
    right_below n within once v below =
        let new = before_repeated n within once in
        let test = and_parts _ _ (once v below) in
        let one = eqb-true (get_or counts v 0) 1 test.1 in
        let ways_of = at v (omega arith) in
        (new-from_test wires v (omega arith) (first.new_before v (omega arith)), omega arith)

    once_from_right : (w : ℕ) → w < length wires → IsRight net w → is_once counts repeated w ≡ true
    once_from_right w within right =
        let ways_of = at w within in
        let one = right.1 in
        and_from _ _
        (not_from_false _ (ne_eqb w repeated (λ same. both_ways (is_new wires w) (rw same (first.repeated (omega arith))) (test-from_new wires w within right.0))))
        (eq-eqb (get_or counts w 0) 1 (omega arith))

    -- every wire is right where each has one use and none is repeated
    pub all_right : OnceBelow counts repeated (length counts) → AllRight net
    all_right once v within = right_below (length counts) (omega (arith, long)) once v (omega (arith, long))

    -- the first wire with another number of uses, or repeated, is the first that is not right
    pub first_is_wrong : (w : ℕ) → IsFirstNotOnce counts repeated w → IsFirstWrong net w
    first_is_wrong w found =
        let inside = found.within in
        let fits : w < length wires = omega (arith, long) in
        record {
          within = fits;
          right_before = right_below w (omega arith) found.below;
          wrong = λ right. both_ways (is_once counts repeated w) found.wrong (once_from_right w fits right);
        }

-- another reading of both cases
pub match_both : {X : Type 0} (o : Option X) {P R : Type 0} {Q S : X → Type 0} → MatchOption o P Q → (P → R) → ((x : X) → Q x → S x) → MatchOption o R S
match_both None h f g = f h
match_both (Some x) h f g = g x h
