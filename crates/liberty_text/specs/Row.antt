-- A row of tokens with gaps between them, cut from the front. What is no token and no gap ends it.
use Rattle.std.specs.Prelude.{ℕ, zero, suc, List, [], ◌∷◌, Option, Some, None, length}

-- the row where no gap stands in front, by the token there: each later row is `again` of the rest
abbrev pub row_of_token : {T : Type 0} → (wrong : T) → (again : List ℕ → List T) → List ℕ → Option (T × List ℕ) → List T
row_of_token wrong again bytes (Some found) = found.0 ∷ again found.1
row_of_token wrong again [] None = []
row_of_token wrong again (b ∷ bs) None = wrong ∷ []

abbrev pub row_of_gap : {T : Type 0} → (wrong : T) → (again : List ℕ → List T) → List ℕ → Option (List ℕ) → Option (T × List ℕ) → List T
row_of_gap wrong again bytes (Some rest) found = again rest
row_of_gap wrong again bytes None found = row_of_token wrong again bytes found

-- the row of at most so many gaps and tokens
unfoldable pub row_below : {T : Type 0} → (wrong : T) → (gap : List ℕ → Option (List ℕ)) → (token : List ℕ → Option (T × List ℕ)) → ℕ → List ℕ → List T
row_below wrong gap token zero bytes = []
row_below wrong gap token (suc n) bytes = row_of_gap wrong (row_below wrong gap token n) bytes (gap bytes) (token bytes)

-- the whole row
unfoldable pub row : {T : Type 0} → (wrong : T) → (gap : List ℕ → Option (List ℕ)) → (token : List ℕ → Option (T × List ℕ)) → List ℕ → List T
row wrong gap token bytes = row_below wrong gap token (length bytes) bytes
