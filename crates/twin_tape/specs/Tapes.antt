-- Tapes as lists of rows of bits, one row for each cycle.
use Rattle.std.specs.Prelude.{◌≡◌, ℕ, zero, suc, Bool, true, false, not, ◌&&◌, List, [], ◌∷◌, ◌++◌, map, length}
use Rattle.std.specs.List.{flat_map}
use Rattle.agm_net.specs.Formula.{xor}
use Rattle.agm_net.specs.Trace.{Row}

-- all rows of R bits, each once
abbrev pub rows : ℕ → List Row
rows zero = [] ∷ []
rows (suc R) = map (λ row. false ∷ row) (rows R) ++ map (λ row. true ∷ row) (rows R)

-- all tapes of T rows of R bits, each once
abbrev pub tapes : ℕ → ℕ → List (List Row)
tapes R zero = [] ∷ []
tapes R (suc T) = flat_map (λ row. map (λ tape. row ∷ tape) (tapes R T)) (rows R)

-- T rows of R bits
abbrev pub IsTape : ℕ → ℕ → List Row → Type 0
IsTape R zero [] = Unit {0}
IsTape R zero (row ∷ tape) = Prim.⊥
IsTape R (suc T) [] = Prim.⊥
IsTape R (suc T) (row ∷ tape) = (length row ≡ R) × IsTape R T tape

abbrev pub same_row : Row → Row → Bool
same_row [] [] = true
same_row [] (b ∷ bs) = false
same_row (a ∷ as') [] = false
same_row (a ∷ as') (b ∷ bs) = not (xor a b) && same_row as' bs

abbrev pub same_tape : List Row → List Row → Bool
same_tape [] [] = true
same_tape [] (row ∷ tape) = false
same_tape (row ∷ tape) [] = false
same_tape (a ∷ as') (b ∷ bs) = same_row a b && same_tape as' bs
