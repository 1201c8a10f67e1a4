-- Names of different shares differ.
use Rattle.std.proofs.Common.{◌≡◌, ◌≢◌, ◌<◌, ◌+◌, ◌%◌, ◌^◌, ◌++◌, ℕ, List, [], ◌∷◌, refl, arith}
use Rattle.std.specs.List.{AllByRecursion}
use Rattle.std.specs.Fmt.{decimal}
use Rattle.std.proofs.lemmas.Fmt.{decimal_by_steps, decimal_injective}
use Rattle.agm_net.specs.Role.{share_name}

-- no byte is an underscore
abbrev HasNoLine : List ℕ → Type 0
HasNoLine bytes = AllByRecursion (λ c. c ≢ 95) bytes

-- one more byte
no_line_more : (bytes : List ℕ) (c : ℕ) → HasNoLine bytes → c ≢ 95 → HasNoLine (bytes ++ c ∷ [])
no_line_more [] c h n = (n, tt)
no_line_more (b ∷ bytes) c h n = (h.0, no_line_more bytes c h.1 n)

-- a number in decimals has no underscore
decimal_has_no_line : (n : ℕ) → n < 2 ^ 64 → HasNoLine (decimal n)
decimal_has_no_line n h =
    decimal_by_steps (λ m ds. HasNoLine ds) (λ m lt. (omega arith, tt)) (λ m ds le p. no_line_more ds (48 + m % 10) p (omega arith)) n h

-- a text is cut at its first underscore in one way
split_unique : (a b x y : List ℕ) → HasNoLine a → HasNoLine b → a ++ 95 ∷ x ≡ b ++ 95 ∷ y → (a ≡ b) × (x ≡ y)
split_unique [] [] x y p q e = let r : x ≡ y = cc in (refl, r)
split_unique [] (d ∷ b) x y p q e = let r : d ≡ 95 = cc in absurd (q.0 r)
split_unique (c ∷ a) [] x y p q e = let r : c ≡ 95 = cc in absurd (p.0 r)
split_unique (c ∷ a) (d ∷ b) x y p q e =
    let head : c ≡ d = cc in
    let tail : a ++ 95 ∷ x ≡ b ++ 95 ∷ y = cc in
    let both = split_unique a b x y p.1 q.1 tail in
    let lists : c ∷ a ≡ d ∷ b = (let r = both.0 in cc) in
    (lists, both.1)

-- one name of a share has one index and one name of a port
pub names_apart : (i j : ℕ) (x y : List ℕ) → i < 2 ^ 64 → j < 2 ^ 64 → share_name i x ≡ share_name j y → (i ≡ j) × (x ≡ y)
names_apart i j x y hi hj e =
    let rest : decimal i ++ 95 ∷ x ≡ decimal j ++ 95 ∷ y = cc in
    let both = split_unique (decimal i) (decimal j) x y (decimal_has_no_line i hi) (decimal_has_no_line j hj) rest in
    (decimal_injective i j hi hj both.0, both.1)
