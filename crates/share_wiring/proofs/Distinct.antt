-- Lists without repetition.
use Rattle.std.proofs.Common.{◌≢◌, ℕ, zero, suc, List, [], ◌∷◌, refl, sym, arith}
use Rattle.std.specs.List.{AllByRecursion}
use Rattle.agm_net.specs.WellFormed.{Differ}
use Rattle.agm_net.proofs.Lists.{all_of_one}

-- no two items are the same
abbrev pub Distinct : {X : Type 0} → List X → Type 0
Distinct [] = Unit {0}
Distinct (x ∷ xs) = AllByRecursion (λ y. x ≢ y) xs × Distinct xs

-- by recursion and by places
pub differ_from_Distinct : (names : List (List ℕ)) → Distinct names → Differ names
differ_from_Distinct [] h v w less within e = absurd (omega arith)
differ_from_Distinct (x ∷ xs) h zero zero less within e = absurd (omega arith)
differ_from_Distinct (x ∷ xs) h zero (suc w) less within e = all_of_one (λ y. x ≢ y) xs w x h.0 (sym e) refl
differ_from_Distinct (x ∷ xs) h (suc v) zero less within e = absurd (omega arith)
differ_from_Distinct (x ∷ xs) h (suc v) (suc w) less within e = differ_from_Distinct xs h.1 v w (omega arith) (omega arith) e
