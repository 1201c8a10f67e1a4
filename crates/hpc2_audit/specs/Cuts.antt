-- How the bytes of a name are cut.
use Rattle.std.specs.Prelude.{◌≡◌, ◌<◌, ◌≤◌, ◌^◌, ◌⊎◌, ◌++◌, ◌∷◌, [], ℕ, List}
use Rattle.std.specs.List.{AllByRecursion}
use Rattle.std.specs.Fmt.{decimal}

-- bytes from low to high, and a text that begins with no such byte
abbrev pub AreBetween : ℕ → ℕ → List ℕ → Type 0
AreBetween low high bytes = AllByRecursion (λ c. (low ≤ c) × (c ≤ high)) bytes

abbrev pub EndsRun : ℕ → ℕ → List ℕ → Type 0
EndsRun low high t = (t ≡ []) ⊎ ((c : ℕ) × (rest : List ℕ) × ((c < low) ⊎ (high < c)) × (t ≡ c ∷ rest))

-- a number below 2^32 in brackets, as `[3]`
abbrev pub IsBracketed : ℕ → List ℕ → Type 0
IsBracketed i text = (i < 2 ^ 32) × (text ≡ 91 ∷ (decimal i ++ 93 ∷ []))
