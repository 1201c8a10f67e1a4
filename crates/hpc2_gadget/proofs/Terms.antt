-- The terms of a share of a product, and its partial sums, by the index that a term is for.
use Rattle.std.proofs.Common.{◌≡◌, ◌≢◌, ◌<◌, ◌≤◌, ◌+◌, ◌-◌, ◌*◌, ◌/◌, ◌%◌, ◌==◌, ◌⊎◌, ℕ, true, false, nat_lt, refl, sym, ap, ap₂, inl, inr, ◌∙◌, arith, eq-eqb}
use Rattle.std.proofs.lemmas.Bool.{cases_lt, lt-ltb, ne_eqb, false_from_ne_true, ltb-true}
use Rattle.std.proofs.lemmas.Nat.{div-mul-add, mod-mul-add}
use Rattle.agm_net.specs.Label.{part}
use Rattle.agm_net.specs.Network.{sum, recipe, term, partial_sum, other_index}
use Rattle.agm_net.specs.declared.label.PartKind.{PartKind}
use Rattle.agm_net.specs.declared.label.PartKind.TheVariants.{U, W, S, C}
use Rattle.hpc2_gadget.specs.Order.{place_of}

-- two and a rest
half : (p r : ℕ) → r < 2 → (2 * p + r) / 2 ≡ p
half p r lt = let turned : 2 * p + r ≡ p * 2 + r = omega arith in ap (λ k. k / 2) turned ∙ div-mul-add p 2 r lt

rest : (p r : ℕ) → r < 2 → (2 * p + r) % 2 ≡ r
rest p r lt = let turned : 2 * p + r ≡ p * 2 + r = omega arith in ap (λ k. k % 2) turned ∙ mod-mul-add p 2 r lt

-- the other index at its place
pub other_at : (i j : ℕ) → i ≢ j → other_index i (place_of i j) ≡ j
other_at i j other =
    elim (cases_lt i j) [
      | inl lt ↦ (
          let at : place_of i j ≡ j - 1 = omega arith in
          let past : nat_lt (place_of i j) i ≡ false = false_from_ne_true (nat_lt (place_of i j) i) (λ h. (let below = ltb-true (place_of i j) i h in omega arith)) in
          let next : place_of i j + 1 ≡ j = omega arith in
          rw past next)
      | inr ge ↦ (
          let differs = other in
          let at : place_of i j ≡ j = omega arith in
          let before : nat_lt (place_of i j) i ≡ true = lt-ltb (place_of i j) i (omega arith) in
          rw before at)
    ]

pub place_below : (d i j : ℕ) → i ≤ d → j ≤ d → i ≢ j → place_of i j < d
place_below d i j hi hj other = let differs = other in omega arith

module _ (d g i : ℕ) where
  -- the terms of the index at place p
  term_of : (p n : ℕ) (kind : PartKind) → (n % 2 ≡ 1) × (kind ≡ U) ⊎ (n % 2 ≡ 0) × (kind ≡ W) → (n - 1) / 2 ≡ p → term d g i n ≡ part g kind i (other_index i p)
  term_of p n kind (inl (odd, is)) at =
      let yes' : (n % 2 == 1) ≡ true = eq-eqb (n % 2) 1 odd in
      rw yes' (ap₂ (λ k q. part g k i (other_index i q)) (sym is) at)
  term_of p n kind (inr (even, is)) at =
      let no' : (n % 2 == 1) ≡ false = ne_eqb (n % 2) 1 (λ e. (let one = e in omega arith)) in
      rw no' (ap₂ (λ k q. part g k i (other_index i q)) (sym is) at)

  -- partial sums
  pub sum_between : (m : ℕ) → 0 < m → m < 2 * d → partial_sum d g i m ≡ part g S i m
  sum_between m some below =
      let no_zero : (m == 0) ≡ false = ne_eqb m 0 (λ e. (let same = e in omega arith)) in
      let no_last : (m == 2 * d) ≡ false = ne_eqb m (2 * d) (λ e. (let same = e in omega arith)) in
      rw no_zero (rw no_last refl)

  pub sum_last : (m : ℕ) → 0 < m → m ≡ 2 * d → partial_sum d g i m ≡ part g C i 0
  sum_last m some same =
      let no_zero : (m == 0) ≡ false = ne_eqb m 0 (λ e. (let none = e in omega arith)) in
      let last : (m == 2 * d) ≡ true = eq-eqb m (2 * d) same in
      rw no_zero (rw last refl)

module _ (d g i j : ℕ) (hi : i ≤ d) (hj : j ≤ d) (other : i ≢ j) where
  -- the first sum with share j
  pub odd_recipe : recipe d g S i (2 * place_of i j + 1) ≡ sum (partial_sum d g i (2 * place_of i j)) (part g U i j)
  odd_recipe =
      let p = place_of i j in
      let before : 2 * p + 1 - 1 ≡ 2 * p = omega arith in
      let at : (2 * p + 1 - 1) / 2 ≡ p = ap (λ k. k / 2) before ∙ (let none : 2 * p ≡ 2 * p + 0 = omega arith in ap (λ k. k / 2) none ∙ half p 0 (omega arith)) in
      let the_term : term d g i (2 * p + 1) ≡ part g U i j = term_of d g i p (2 * p + 1) U (inl (rest p 1 (omega arith), refl)) at ∙ ap (λ k. part g U i k) (other_at i j other) in
      ap₂ sum (ap (partial_sum d g i) before) the_term

  even_term : term d g i (2 * place_of i j + 2) ≡ part g W i j
  even_term =
      let p = place_of i j in
      let whole : 2 * p + 2 ≡ 2 * (p + 1) + 0 = omega arith in
      let before : 2 * p + 2 - 1 ≡ 2 * p + 1 = omega arith in
      let at : (2 * p + 2 - 1) / 2 ≡ p = ap (λ k. k / 2) before ∙ half p 1 (omega arith) in
      term_of d g i p (2 * p + 2) W (inr (ap (λ k. k % 2) whole ∙ rest (p + 1) 0 (omega arith), refl)) at ∙ ap (λ k. part g W i k) (other_at i j other)

  -- the second one
  pub even_recipe : recipe d g S i (2 * place_of i j + 2) ≡ sum (partial_sum d g i (2 * place_of i j + 1)) (part g W i j)
  even_recipe = let before : 2 * place_of i j + 2 - 1 ≡ 2 * place_of i j + 1 = omega arith in ap₂ sum (ap (partial_sum d g i) before) even_term

  -- which is the last at the last place
  pub last_recipe : place_of i j + 1 ≡ d → recipe d g C i 0 ≡ sum (partial_sum d g i (2 * place_of i j + 1)) (part g W i j)
  last_recipe last =
      let end : 2 * d ≡ 2 * place_of i j + 2 = omega arith in
      let before : 2 * d - 1 ≡ 2 * place_of i j + 1 = omega arith in
      ap₂ sum (ap (partial_sum d g i) before) (ap (term d g i) end ∙ even_term)

  pub odd_sum : partial_sum d g i (2 * place_of i j + 1) ≡ part g S i (2 * place_of i j + 1)
  odd_sum = let below = place_below d i j hi hj other in sum_between d g i (2 * place_of i j + 1) (omega arith) (omega arith)
