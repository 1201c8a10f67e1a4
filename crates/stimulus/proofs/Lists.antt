-- Facts on each item of a list, by place and by recursion.
use Rattle.std.proofs.Common.{◌≡◌, zero, suc, Bool, true, false, ◌&&◌, List, [], ◌∷◌, All, map, refl, ap, arith}
use Rattle.std.specs.List.{AllByRecursion, list_all}

pub all_from : {X : Type 0} (P : X → Type 0) (xs : List X) → AllByRecursion P xs → All P xs
all_from P [] h k d within = absurd (omega arith)
all_from P (x ∷ xs) h zero d within = h.0
all_from P (x ∷ xs) h (suc k) d within = all_from P xs h.1 k d (omega arith)

pub all_to : {X : Type 0} (P : X → Type 0) (xs : List X) → All P xs → AllByRecursion P xs
all_to P [] h = tt
all_to P (x ∷ xs) h = (h 0 x (omega arith), all_to P xs (λ k d lt. h (suc k) d (omega arith)))

pub all_of_map : {X Y : Type 0} (test : Y → Bool) (f : X → Y) (xs : List X) → list_all test (map f xs) ≡ list_all (λ x. test (f x)) xs
all_of_map test f [] = refl
all_of_map test f (x ∷ xs) = ap (λ b. test (f x) && b) (all_of_map test f xs)

pub both_true : (a b : Bool) → (a && b) ≡ true → (a ≡ true) × (b ≡ true)
both_true true b h = (refl, h)
both_true false b h = absurd (cc)
