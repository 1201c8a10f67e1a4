-- Probes in which nothing is wrong fit.
use Rattle.std.proofs.Common.{◌≡◌, ◌<◌, ◌≤◌, ◌+◌, ◌^◌, inl, inr, subst, ℕ, Bool, true, List, [], ◌∷◌, Option, Some, None, Ok, length, map, refl, sym, arith}
use Rattle.std.specs.Prelude.{nat_lt, position, unwrap_or}
use Rattle.std.specs.List.{All, list_any, enumerate_from, position_or_len}
use Rattle.std.specs.Str.{bytes_eq}
use Rattle.std.proofs.lemmas.Bool.{cases_Bool, lt-ltb, ltb-true, ltb-false}
use Rattle.std.proofs.lemmas.List.Elements.{All-nil, All-cons}
use Rattle.std.proofs.lemmas.List.{length-map}
use mathlib.Core.Logic.{⊎_elim}
use Rattle.serde_json.specs.Data.{Data}
use Rattle.probe_cones.specs.declared.probe.Probe.{Probe}
use Rattle.probe_cones.specs.declared.probe.Probes.{Probes}
use Rattle.probe_lists.specs.Answer.{Answers, judged, probe_of, probes_of}
use Rattle.probe_lists.specs.Asked.{count_fault, first_bad_index, first_bad_probe, first_fault, first_of, is_wire, probe_fault}
use Rattle.probe_lists.specs.Fit.{AreFit}
use Rattle.probe_lists.specs.declared.fault.ProbeFault.{ProbeFault}
use Rattle.probe_lists.specs.declared.texts.ListText.{ListText}
use Rattle.probe_lists.specs.declared.texts.ProbeText.{ProbeText}

module _ {X : Type 0} (p : X → Bool) where
  place_within : (xs : List X) → list_any p xs ≡ true → position_or_len p xs < length xs
  place_within [] any = absurd (cc)
  place_within (x ∷ xs) any =
      ⊎_elim
      (λ yes. rw yes (omega arith))
      (λ no. let rest = place_within xs (rw no at any) in rw no (omega arith))
      (cases_Bool (p x))

  found_within : (xs : List X) → list_any p xs ≡ true → unwrap_or (position p xs) 0 < length xs
  found_within xs any = let within = place_within xs any in rw (lt-ltb (position_or_len p xs) (length xs) within) within

-- a probe in which nothing is wrong
abbrev IsGood : List (List ℕ) → Probe → Type 0
IsGood wires p = (p.wire < length wires) × (p.cycle < 2 ^ 20)

one_good : (wires : List (List ℕ)) (place : ℕ) (t : ProbeText) → probe_fault wires (place, t) ≡ None → IsGood wires (probe_of wires t)
one_good wires place t none =
    ⊎_elim
    (λ there.
    ⊎_elim
    (λ early. (found_within (λ n. bytes_eq n t.wire) wires there, ltb-true t.cycle (2 ^ 20) early))
    (λ late. absurd (let h = rw (there, late) at none in cc))
    (cases_Bool (nat_lt t.cycle (2 ^ 20))))
    (λ lost. absurd (let h = rw lost at none in cc))
    (cases_Bool (is_wire wires t.wire))

first_none : (f : Option ProbeFault) (rest : List (Option ProbeFault)) → first_of (f ∷ rest) ≡ None → (f ≡ None) × (first_of rest ≡ None)
first_none None rest none = (refl, none)
first_none (Some fault) rest none = absurd (cc)

abbrev Clean : List (List ℕ) → ℕ → List ProbeText → Type 0
Clean wires place ts = first_of (map (probe_fault wires) (enumerate_from place ts)) ≡ None

-- where nothing is wrong with probes, each of a property of good probes holds of all
all_good : (wires : List (List ℕ)) (P : Probe → Type 0) → ((p : Probe) → IsGood wires p → P p)
    → (place : ℕ) (ts : List ProbeText) → Clean wires place ts → All P (map (probe_of wires) ts)
all_good wires P holds place [] none = All-nil P
all_good wires P holds place (t ∷ ts) none =
    let parts = first_none (probe_fault wires (place, t)) (map (probe_fault wires) (enumerate_from (place + 1) ts)) none in
    All-cons P (probe_of wires t) (map (probe_of wires) ts)
    (holds (probe_of wires t) (one_good wires place t parts.0))
    (all_good wires P holds (place + 1) ts parts.1)

-- where their number is not wrong
few_enough : (order : ℕ) (t : ListText) → count_fault order t ≡ None → length t.probes + length t.indices ≤ order
few_enough order t none =
    ⊎_elim
    (λ more. absurd (let h = rw more at none in cc))
    (λ few. let least = ltb-false order (length t.probes + length t.indices) few in omega arith)
    (cases_Bool (nat_lt order (length t.probes + length t.indices)))

judged_fit : (wires : List (List ℕ)) (order : ℕ) (t : ListText) → first_fault wires order t ≡ None → AreFit (length wires) order (probes_of wires t)
judged_fit wires order t none =
    let first = first_none (first_bad_probe wires t.probes) (first_bad_index order t.indices ∷ count_fault order t ∷ []) none in
    let second = first_none (first_bad_index order t.indices) (count_fault order t ∷ []) first.1 in
    let third = first_none (count_fault order t) [] second.1 in
    let few = few_enough order t third.0 in
    record {
      in_range = all_good wires (λ p. p.wire < length wires) (λ p good. good.0) 0 t.probes first.0;
      cycles = all_good wires (λ p. p.cycle < 2 ^ 20) (λ p good. good.1) 0 t.probes first.0;
      few = rw (length-map t.probes (probe_of wires)) few;
    }

-- the answer is Ok where there is no fault
right_fit : (wires : List (List ℕ)) (order : ℕ) (t : ListText) (asked : Probes) (fault : Option ProbeFault) → first_fault wires order t ≡ fault
    → Ok asked ≡ judged fault (probes_of wires t) → AreFit (length wires) order asked
right_fit wires order t asked None none same =
    let is : asked ≡ probes_of wires t = cc in
    subst (AreFit (length wires) order) (sym is) (judged_fit wires order t none)
right_fit wires order t asked (Some fault) some same = absurd (cc)

pub probes_are_fit : (wires : List (List ℕ)) (order : ℕ) (value : Option Data) (asked : Probes) → Answers wires order value (Ok asked) → AreFit (length wires) order asked
probes_are_fit wires order None asked (inl h) = absurd (cc)
probes_are_fit wires order None asked (inr h) = absurd (cc)
probes_are_fit wires order (Some d) asked (inl (inl h)) = absurd (cc)
probes_are_fit wires order (Some d) asked (inl (inr h)) = absurd (let wrong = h.0 in cc)
probes_are_fit wires order (Some d) asked (inr h) = right_fit wires order h.0 asked (first_fault wires order h.0) refl h.2
