-- Rows, step by step.
use Rattle.std.proofs.Common.{◌≡◌, ◌≤◌, ◌<◌, ◌+◌, ◌-◌, ℕ, zero, suc, List, [], ◌∷◌, Option, Some, None, length, refl, sym, ap, ◌∙◌, arith}
use Rattle.liberty_text.specs.Row.{row_of_token, row_of_gap, row_below, row}

-- what stands behind a gap or a token is shorter
pub record Shrinks {T : Type 0} (gap : List ℕ → Option (List ℕ)) (token : List ℕ → Option (T × List ℕ)) : Type 0 where
  pub gaps : (bytes rest : List ℕ) → gap bytes ≡ Some rest → length rest < length bytes
  pub tokens : (bytes : List ℕ) (found : T × List ℕ) → token bytes ≡ Some found → length found.1 < length bytes

token_same : {T : Type 0} (wrong : T) (f g : List ℕ → List T) (bytes : List ℕ) (o : Option (T × List ℕ)) → ((found : T × List ℕ) → o ≡ Some found → f found.1 ≡ g found.1) → row_of_token wrong f bytes o ≡ row_of_token wrong g bytes o
token_same {T} wrong f g bytes (Some found) h = ap (λ (ts : List T). found.0 ∷ ts) (h found refl)
token_same wrong f g [] None h = refl
token_same wrong f g (b ∷ bs) None h = refl

gap_same : {T : Type 0} (wrong : T) (f g : List ℕ → List T) (bytes : List ℕ) (o : Option (List ℕ)) (p : Option (T × List ℕ)) → ((rest : List ℕ) → o ≡ Some rest → f rest ≡ g rest) → ((found : T × List ℕ) → p ≡ Some found → f found.1 ≡ g found.1) → row_of_gap wrong f bytes o p ≡ row_of_gap wrong g bytes o p
gap_same wrong f g bytes (Some rest) p h k = h rest refl
gap_same wrong f g bytes None p h k = token_same wrong f g bytes p k

-- one more step changes nothing where all bytes are read
pub one_more : {T : Type 0} (wrong : T) (gap : List ℕ → Option (List ℕ)) (token : List ℕ → Option (T × List ℕ)) → Shrinks gap token → (n : ℕ) (bytes : List ℕ) → length bytes ≤ n → row_below wrong gap token (suc n) bytes ≡ row_below wrong gap token n bytes
unfolding row_below
one_more {T} wrong gap token s zero [] h = nothing_left (gap []) (token []) (λ rest e. s.gaps [] rest e) (λ found e. s.tokens [] found e)
  where
    nothing_left : (o : Option (List ℕ)) (p : Option (T × List ℕ)) → ((rest : List ℕ) → o ≡ Some rest → length rest < 0) → ((found : T × List ℕ) → p ≡ Some found → length found.1 < 0) → row_of_gap wrong (row_below wrong gap token zero) [] o p ≡ []
    nothing_left (Some rest) p k l = absurd (omega (arith, k rest refl))
    nothing_left None (Some found) k l = absurd (omega (arith, l found refl))
    nothing_left None None k l = refl
one_more wrong gap token s zero (b ∷ bs) h = absurd (omega arith)
one_more wrong gap token s (suc n) bytes h =
    gap_same wrong (row_below wrong gap token (suc n)) (row_below wrong gap token n) bytes (gap bytes) (token bytes)
    (λ rest e. one_more wrong gap token s n rest (omega (arith, s.gaps bytes rest e)))
    (λ found e. one_more wrong gap token s n found.1 (omega (arith, s.tokens bytes found e)))

pub more : {T : Type 0} (wrong : T) (gap : List ℕ → Option (List ℕ)) (token : List ℕ → Option (T × List ℕ)) → Shrinks gap token → (k : ℕ) (bytes : List ℕ) → row_below wrong gap token (length bytes + k) bytes ≡ row wrong gap token bytes
unfolding row
more wrong gap token s zero bytes = ap (λ n. row_below wrong gap token n bytes) (omega arith)
more wrong gap token s (suc k) bytes =
    ap (λ n. row_below wrong gap token n bytes) (omega arith)
    ∙ (one_more wrong gap token s (length bytes + k) bytes (omega arith) ∙ more wrong gap token s k bytes)

-- enough steps give the whole row
pub enough : {T : Type 0} (wrong : T) (gap : List ℕ → Option (List ℕ)) (token : List ℕ → Option (T × List ℕ)) → Shrinks gap token → (n : ℕ) (bytes : List ℕ) → length bytes ≤ n → row_below wrong gap token n bytes ≡ row wrong gap token bytes
enough wrong gap token s n bytes h = ap (λ k. row_below wrong gap token k bytes) (omega arith) ∙ more wrong gap token s (n - length bytes) bytes

-- the row by its first gap or token
pub row_is : {T : Type 0} (wrong : T) (gap : List ℕ → Option (List ℕ)) (token : List ℕ → Option (T × List ℕ)) → Shrinks gap token → (bytes : List ℕ) → row wrong gap token bytes ≡ row_of_gap wrong (row wrong gap token) bytes (gap bytes) (token bytes)
unfolding row_below
row_is wrong gap token s bytes =
    sym (enough wrong gap token s (suc (length bytes)) bytes (omega arith))
    ∙ gap_same wrong (row_below wrong gap token (length bytes)) (row wrong gap token) bytes (gap bytes) (token bytes)
    (λ rest e. enough wrong gap token s (length bytes) rest (omega (arith, s.gaps bytes rest e)))
    (λ found e. enough wrong gap token s (length bytes) found.1 (omega (arith, s.tokens bytes found e)))
