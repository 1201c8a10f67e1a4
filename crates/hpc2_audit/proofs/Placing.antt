-- Where wires stand in a list, place by place.
use Rattle.std.proofs.Common.{◌≡◌, ◌≢◌, ◌<◌, ◌≤◌, ◌+◌, ℕ, List, Some, length, set, slice_get, IsTrue, refl, sym, ap, subst, inl, inr, ◌∙◌, arith, eq-eqb, get_or-set_same, get_or-set_other}
use Rattle.std.specs.Prelude.{◌==◌}
use Rattle.std.specs.List.{list_any}
use Rattle.std.proofs.lemmas.Bool.{cases_Bool, cases_lt, eqb-true, eqb-false}
use Rattle.std.proofs.lemmas.Option.{slice_get_within}
use Rattle.agm_net.proofs.Lists.{any_at, place_of_any}
use Rattle.hpc2_audit.specs.Places.{IsPlace, IsPlaceBelow, place_at}
use Rattle.hpc2_audit.specs.Standing.{is_there}
use Rattle.hpc2_audit.specs.declared.places.Place.{Place}
use Rattle.hpc2_audit.specs.declared.places.Place.TheVariants.{Nowhere, At}

later : (wires : List ℕ) (i u w : ℕ) (p : Place) → slice_get wires i ≡ Some u → w ≢ u → IsPlaceBelow i wires w p → IsPlaceBelow (i + 1) wires w p
later wires i u w Nowhere at ne h = λ k lt is.
    elim (cases_lt k i) [
      | inl less ↦ h k less is
      | inr ge ↦ (
          let same : k ≡ i = omega arith in
          let here : Some w ≡ Some u = sym is ∙ (ap (slice_get wires) same ∙ at) in
          ne (let e : w ≡ u = cc in e))
    ]
later wires i u w (At k) at ne h = h

-- one place more
pub place_more : (wires : List ℕ) (places : List Place) (i u w : ℕ) → slice_get wires i ≡ Some u → w < length places → IsPlaceBelow i wires w (place_at places w) → IsPlaceBelow (i + 1) wires w (place_at (set places u (At i)) w)
place_more wires places i u w at lt h =
    elim (cases_Bool (w == u)) [
      | inl same ↦ (
          let eq : w ≡ u = eqb-true w u same in
          let lt' : u < length places = subst (λ v. v < length places) eq lt in
          let here : At i ≡ place_at (set places u (At i)) w = sym (ap (place_at (set places u (At i))) eq ∙ get_or-set_same places u (At i) Nowhere lt') in
          subst (IsPlaceBelow (i + 1) wires w) here (at ∙ ap (λ v. Some v) (sym eq)))
      | inr other ↦ (
          let ne : w ≢ u = eqb-false w u other in
          let here : place_at places w ≡ place_at (set places u (At i)) w = sym (get_or-set_other places u w (At i) Nowhere ne) in
          subst (IsPlaceBelow (i + 1) wires w) here (later wires i u w (place_at places w) at ne h))
    ]

-- all places
pub place_done : (wires : List ℕ) (n w : ℕ) (p : Place) → length wires ≤ n → IsPlaceBelow n wires w p → IsPlace wires w p
place_done wires n w Nowhere le h = λ k is. let lt = slice_get_within wires k w is in h k (omega arith) is
place_done wires n w (At k) le h = h

-- a wire is there exactly where it has a place
pub there_tells : (wires : List ℕ) (w : ℕ) (p : Place) → IsPlace wires w p → (IsTrue (is_there p) → IsTrue (list_any (λ b. b == w) wires)) × (IsTrue (list_any (λ b. b == w) wires) → IsTrue (is_there p))
there_tells wires w Nowhere h = (
  λ yes. absurd (cc),
  λ some. (
      let found = place_of_any (λ b. b == w) wires some in
      absurd (h found.0 (found.2 ∙ ap (λ v. Some v) (eqb-true found.1 w found.3)))),
)
there_tells wires w (At k) h = (λ yes. any_at (λ b. b == w) wires k w h (eq-eqb w w refl), λ some. refl)
