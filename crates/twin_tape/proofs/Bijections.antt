-- Sums over all tapes stay under a map that has an inverse.
use Rattle.std.proofs.Common.{◌≡◌, ℕ, ◌+◌, Bool, true, false, cond, List, [], ◌∷◌, refl, sym, ap, ◌∙◌, arith, sum_by}
use Rattle.std.proofs.lemmas.List.Sums.{sum_by-cons}
use Rattle.agm_net.specs.Trace.{Row}
use Rattle.twin_tape.specs.Tapes.{IsTape, tapes, same_tape}
use Rattle.twin_tape.specs.Laws.{IsInverse}
use Rattle.twin_tape.proofs.Counting.{sum_by-ext, sum_tapes-ext}
use Rattle.twin_tape.proofs.Once.{tapes_weigh, tapes_same, none}

sum_add : {X : Type 0} (f g : X → ℕ) (xs : List X) → sum_by f xs + sum_by g xs ≡ sum_by (λ x. f x + g x) xs
sum_add f g [] = refl
sum_add f g (x ∷ xs) =
    let a = sum_by-cons f x xs in let b = sum_by-cons g x xs in let c = sum_by-cons (λ x. f x + g x) x xs in let d = sum_add f g xs in omega arith

sum_swap : {X Y : Type 0} (h : X → Y → ℕ) (xs : List X) (ys : List Y) → sum_by (λ x. sum_by (h x) ys) xs ≡ sum_by (λ y. sum_by (λ x. h x y) xs) ys
sum_swap h [] ys = sym (none ys)
sum_swap h (x ∷ xs) ys =
    sum_by-cons (λ x. sum_by (h x) ys) x xs ∙ ap (λ n. sum_by (h x) ys + n) (sum_swap h xs ys) ∙ sum_add (h x) (λ y. sum_by (λ x. h x y) xs) ys ∙
    sum_by-ext (λ y. h x y + sum_by (λ x. h x y) xs) (λ y. sum_by (λ x. h x y) (x ∷ xs)) (λ y. sym (sum_by-cons (λ x. h x y) x xs)) ys

same_tests : (a b : Bool) → (a ≡ true → b ≡ true) → (b ≡ true → a ≡ true) → a ≡ b
same_tests true b f g = sym (f refl)
same_tests false true f g = g refl
same_tests false false f g = refl

module _ (R T : ℕ) (F G : List Row → List Row) (inverse : IsInverse R T F G) (f : List Row → ℕ) where
  met : (x y : List Row) → IsTape R T x → IsTape R T y → same_tape (F x) y ≡ same_tape (G y) x
  met x y is_x is_y =
      same_tests (same_tape (F x) y) (same_tape (G y) x)
      (λ e. (tapes_same (G y) x).1 (ap G (sym ((tapes_same (F x) y).0 e)) ∙ inverse.undone x is_x))
      (λ e. (tapes_same (F x) y).1 (ap F (sym ((tapes_same (G y) x).0 e)) ∙ inverse.redone y is_y))

  -- the value at a tape, as a sum over all tapes
  picks : (x : List Row) → IsTape R T x → f x ≡ sum_by (λ y. cond (same_tape x y) (f y) 0) (tapes R T)
  picks x is =
      sym (tapes_weigh R T x is (f x)) ∙
      sum_by-ext (λ y. cond (same_tape x y) (f x) 0) (λ y. cond (same_tape x y) (f y) 0) (λ y. go (same_tape x y) y (λ e. (tapes_same x y).0 e)) (tapes R T)
    where
      go : (b : Bool) (y : List Row) → (b ≡ true → x ≡ y) → cond b (f x) 0 ≡ cond b (f y) 0
      go true y same = ap f (same refl)
      go false y same = refl

  pub sum_bijected : sum_by (λ x. f (F x)) (tapes R T) ≡ sum_by f (tapes R T)
  sum_bijected =
      sum_tapes-ext R T (λ x. f (F x)) (λ x. sum_by (λ y. cond (same_tape (F x) y) (f y) 0) (tapes R T)) (λ x is. picks (F x) (inverse.to x is)) ∙
      sum_swap (λ x y. cond (same_tape (F x) y) (f y) 0) (tapes R T) (tapes R T) ∙
      sum_tapes-ext R T (λ y. sum_by (λ x. cond (same_tape (F x) y) (f y) 0) (tapes R T)) f
      (λ y is.
      sum_tapes-ext R T (λ x. cond (same_tape (F x) y) (f y) 0) (λ x. cond (same_tape (G y) x) (f y) 0) (λ x is_x. ap (λ b. cond b (f y) 0) (met x y is_x is)) ∙
      tapes_weigh R T (G y) (inverse.back y is) (f y))
