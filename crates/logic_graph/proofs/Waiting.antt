-- What a formula waits for.
use Rattle.std.proofs.Common.{◌≡◌, ◌<◌, ◌==◌, ◌⊎◌, ℕ, zero, suc, true, false, ◌||◌, List, Option, Some, None, IsTrue, refl, inl, inr, arith, subst}
use Rattle.std.proofs.lemmas.Bool.{eqb-true, eqb-false, or_cases, or_left, or_right, cases_Bool, eq-eqb}
use Rattle.agm_net.specs.Formula.{Formula, f_zero, f_one, f_wire, f_not, f_and, f_or, f_xor, f_mux, stands}
use Rattle.logic_graph.specs.declared.search.Mark.{Mark}
use Rattle.logic_graph.specs.Searching.{left_at, waiting, waiting_wire, either}

-- where neither of two waits
either_none : (a b : Option ℕ) → either a b ≡ None → (a ≡ None) × (b ≡ None)
either_none (Some v) b h = absurd (cc)
either_none None b h = (refl, h)

-- where one of two waits
either_some : (a b : Option ℕ) (v : ℕ) → either a b ≡ Some v → (a ≡ Some v) ⊎ (b ≡ Some v)
either_some (Some u) b v h = inl h
either_some None b v h = inr h

-- a formula that waits for no wire reads done wires
pub reads_done : (marks : List Mark) (f : Formula) (v : ℕ) → waiting marks f ≡ None → IsTrue (stands v f) → left_at marks v ≡ 0
reads_done marks f_zero v h s = absurd (let no : false ≡ true = s in cc)
reads_done marks f_one v h s = absurd (let no : false ≡ true = s in cc)
reads_done marks (f_wire w) v h s =
    let same : w ≡ v = eqb-true w v s in
    elim (cases_Bool (left_at marks w == 0)) [
      | inl done ↦ subst (λ u. left_at marks u ≡ 0) same (eqb-true (left_at marks w) 0 done)
      | inr not_done ↦ absurd (let some : waiting_wire marks w ≡ Some w = rw not_done refl in cc)
    ]
reads_done marks (f_not x) v h s = reads_done marks x v h s
reads_done marks (f_and x y) v h s =
    let both = either_none (waiting marks x) (waiting marks y) h in
    elim (or_cases (stands v x) (stands v y) s) [ inl left ↦ reads_done marks x v both.0 left | inr right ↦ reads_done marks y v both.1 right ]
reads_done marks (f_or x y) v h s =
    let both = either_none (waiting marks x) (waiting marks y) h in
    elim (or_cases (stands v x) (stands v y) s) [ inl left ↦ reads_done marks x v both.0 left | inr right ↦ reads_done marks y v both.1 right ]
reads_done marks (f_xor x y) v h s =
    let both = either_none (waiting marks x) (waiting marks y) h in
    elim (or_cases (stands v x) (stands v y) s) [ inl left ↦ reads_done marks x v both.0 left | inr right ↦ reads_done marks y v both.1 right ]
reads_done marks (f_mux c x y) v h s =
    let all = either_none (waiting marks c) (either (waiting marks x) (waiting marks y)) h in
    let both = either_none (waiting marks x) (waiting marks y) all.1 in
    elim (or_cases (stands v c) (stands v x || stands v y) s) [
      | inl test ↦ reads_done marks c v all.0 test
      | inr rest ↦ elim (or_cases (stands v x) (stands v y) rest) [ inl left ↦ reads_done marks x v both.0 left | inr right ↦ reads_done marks y v both.1 right ]
    ]

-- a wire that a formula waits for stands there and is not done
pub waits_for : (marks : List Mark) (f : Formula) (v : ℕ) → waiting marks f ≡ Some v → IsTrue (stands v f) × (0 < left_at marks v)
waits_for marks f_zero v h = absurd (cc)
waits_for marks f_one v h = absurd (cc)
waits_for marks (f_wire w) v h =
    elim (cases_Bool (left_at marks w == 0)) [
      | inl done ↦ absurd (let none : waiting_wire marks w ≡ None = rw done refl in cc)
      | inr not_done ↦ (
          let some : waiting_wire marks w ≡ Some w = rw not_done refl in
          let same : w ≡ v = cc in
          (eq-eqb w v same, subst (λ u. 0 < left_at marks u) same (positive (left_at marks w) (eqb-false (left_at marks w) 0 not_done))))
    ]
  where
    positive : (n : ℕ) → (n ≡ 0 → Prim.⊥) → 0 < n
    positive zero h = absurd (h refl)
    positive (suc n) h = omega arith
waits_for marks (f_not x) v h = waits_for marks x v h
waits_for marks (f_and x y) v h =
    elim (either_some (waiting marks x) (waiting marks y) v h) [
      | inl left ↦ (let is = waits_for marks x v left in (or_left (stands v x) (stands v y) is.0, is.1))
      | inr right ↦ (let is = waits_for marks y v right in (or_right (stands v x) (stands v y) is.0, is.1))
    ]
waits_for marks (f_or x y) v h =
    elim (either_some (waiting marks x) (waiting marks y) v h) [
      | inl left ↦ (let is = waits_for marks x v left in (or_left (stands v x) (stands v y) is.0, is.1))
      | inr right ↦ (let is = waits_for marks y v right in (or_right (stands v x) (stands v y) is.0, is.1))
    ]
waits_for marks (f_xor x y) v h =
    elim (either_some (waiting marks x) (waiting marks y) v h) [
      | inl left ↦ (let is = waits_for marks x v left in (or_left (stands v x) (stands v y) is.0, is.1))
      | inr right ↦ (let is = waits_for marks y v right in (or_right (stands v x) (stands v y) is.0, is.1))
    ]
waits_for marks (f_mux c x y) v h =
    let rest = stands v x || stands v y in
    elim (either_some (waiting marks c) (either (waiting marks x) (waiting marks y)) v h) [
      | inl test ↦ (let is = waits_for marks c v test in (or_left (stands v c) rest is.0, is.1))
      | inr two ↦ elim (either_some (waiting marks x) (waiting marks y) v two) [
        | inl left ↦ (let is = waits_for marks x v left in (or_right (stands v c) rest (or_left (stands v x) (stands v y) is.0), is.1))
        | inr right ↦ (let is = waits_for marks y v right in (or_right (stands v c) rest (or_right (stands v x) (stands v y) is.0), is.1))
      ]
    ]
