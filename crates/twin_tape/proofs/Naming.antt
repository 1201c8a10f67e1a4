-- Wires by their names.
use Rattle.std.proofs.Common.{◌≡◌, ◌<◌, ◌+◌, ◌++◌, ◌∷◌, ℕ, zero, suc, Bool, true, false, not, cond, take, List, [], Some, None, length, get_or, slice_index_or, IsTrue, refl, sym, ap, ap₂, ◌∙◌, subst, arith}
use Rattle.std.specs.Prelude.{position}
use Rattle.std.specs.List.{list_any, position_or_len}
use Rattle.std.specs.Str.{bytes_eq}
use Rattle.std.proofs.lemmas.List.{take_more}
use Rattle.std.proofs.lemmas.List.Quantifiers.{position-Some}
use Rattle.std.proofs.lemmas.List.Recursion.{is_position_or_len}
use Rattle.std.proofs.lemmas.List.Sums.{position_or_len_is}
use Rattle.std.proofs.lemmas.Option.{slice_get_within, slice_get-get_or}
use Rattle.agm_net.specs.Checks.{is_new}
use Rattle.agm_net.specs.WellFormed.{Differ}
use Rattle.agm_net.proofs.Finds.{not_any}
use Rattle.agm_net.proofs.Repeats.{test-from_new}
use Rattle.twin_tape.specs.Pairs.{wire_named}

-- a name that is found is that of the first wire with it
pub found_named : (names : List (List ℕ)) (name : List ℕ) (w : ℕ) → position (λ n. bytes_eq n name) names ≡ Some w → w ≡ wire_named names name
found_named names name w at =
    let place = position-Some (λ n. bytes_eq n name) names w [] at in
    let lt = place.0 in
    sym (is_position_or_len (λ ns. wire_named ns name) (λ n. bytes_eq n name) refl (λ n ns. let more : suc (wire_named ns name) ≡ 1 + wire_named ns name = omega arith in ap (cond (bytes_eq n name) 0) more) names
    ∙ position_or_len_is (λ n. bytes_eq n name) names w [] (omega (arith, lt)) place.2 (λ h. place.1))

-- and one that some wire has is found
pub is_found : (names : List (List ℕ)) (name : List ℕ) → IsTrue (list_any (λ n. bytes_eq n name) names) → position (λ n. bytes_eq n name) names ≡ None → Prim.⊥
is_found names name some none = let no = not_any (λ n. bytes_eq n name) names none in cc

-- names that differ, with one more
pub names_more : (wires names after : List (List ℕ)) (i : ℕ) (own : List ℕ) (fresh : Bool) → Differ wires → i < length wires → own ≡ get_or wires i own
    → fresh ≡ not (list_any (λ n. bytes_eq n own) names) → after ≡ cond fresh (names ++ own ∷ []) names → names ≡ take i wires → after ≡ take (i + 1) wires
names_more wires names after i own fresh differ lt is new grown taken =
    let here : get_or wires i [] ≡ own = same_default wires i lt ∙ sym is in
    let test : is_new wires i ≡ true = test-from_new wires i lt (λ v before. differ v i before lt) in
    let fresh_true : fresh ≡ true = new ∙ (ap₂ (λ n ns. not (list_any (λ m. bytes_eq m n) ns)) (sym here) taken ∙ test) in
    grown ∙ (ap (λ b. cond b (names ++ own ∷ []) names) fresh_true ∙ (ap₂ (λ ns n. ns ++ n ∷ []) taken is ∙ sym (take_more wires i own lt)))
  where
    same_default : (xs : List (List ℕ)) (k : ℕ) → k < length xs → get_or xs k [] ≡ get_or xs k own
    same_default [] k h = absurd (omega (arith, h))
    same_default (x ∷ xs) zero h = refl
    same_default (x ∷ xs) (suc k) h = same_default xs k (omega (arith, h))
