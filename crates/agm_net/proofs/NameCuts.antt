-- How the bytes of a name are cut: runs of letters and of digits end in one place.
use Rattle.std.proofs.Common.{◌≡◌, ◌<◌, ◌≤◌, ◌+◌, ◌%◌, ◌^◌, ◌++◌, ◌⊎◌, ℕ, List, [], ◌∷◌, refl, sym, subst, inl, inr, arith}
use Rattle.std.specs.List.{AllByRecursion}
use Rattle.std.specs.Fmt.{decimal}
use Rattle.std.proofs.lemmas.Fmt.{decimal_by_steps, decimal_injective}

-- bytes from lo to hi, and a text that begins with no such byte
abbrev pub AreBetween : ℕ → ℕ → List ℕ → Type 0
AreBetween lo hi bytes = AllByRecursion (λ c. (lo ≤ c) × (c ≤ hi)) bytes

abbrev pub EndsRun : ℕ → ℕ → List ℕ → Type 0
EndsRun lo hi t = (t ≡ []) ⊎ ((c : ℕ) × (rest : List ℕ) × ((c < lo) ⊎ (hi < c)) × (t ≡ c ∷ rest))

not_end : (lo hi c : ℕ) (s : List ℕ) → lo ≤ c → c ≤ hi → EndsRun lo hi (c ∷ s) → Prim.⊥
not_end lo hi c s low high (inl e) = absurd (cc)
not_end lo hi c s low high (inr (d, rest, inl less, e)) = let same : c ≡ d = cc in omega arith
not_end lo hi c s low high (inr (d, rest, inr more, e)) = let same : c ≡ d = cc in omega arith

-- a run ends in one place
pub cut_run : (lo hi : ℕ) (a b s t : List ℕ) → AreBetween lo hi a → AreBetween lo hi b → EndsRun lo hi s → EndsRun lo hi t → a ++ s ≡ b ++ t → (a ≡ b) × (s ≡ t)
cut_run lo hi [] [] s t p q hs ht e = let r : s ≡ t = cc in (refl, r)
cut_run lo hi [] (d ∷ b) s t p q hs ht e = absurd (not_end lo hi d (b ++ t) q.0.0 q.0.1 (subst (EndsRun lo hi) e hs))
cut_run lo hi (d ∷ a) [] s t p q hs ht e = absurd (not_end lo hi d (a ++ s) p.0.0 p.0.1 (subst (EndsRun lo hi) (sym e) ht))
cut_run lo hi (d ∷ a) (f ∷ b) s t p q hs ht e =
    let head : d ≡ f = cc in
    let rest : a ++ s ≡ b ++ t = cc in
    let both = cut_run lo hi a b s t p.1 q.1 hs ht rest in
    let lists : d ∷ a ≡ f ∷ b = (let r = both.0 in cc) in
    (lists, both.1)

joined : (lo hi : ℕ) (xs : List ℕ) (c : ℕ) → AreBetween lo hi xs → lo ≤ c → c ≤ hi → AreBetween lo hi (xs ++ c ∷ [])
joined lo hi [] c h low high = ((low, high), tt)
joined lo hi (x ∷ xs) c h low high = (h.0, joined lo hi xs c h.1 low high)

abbrev pub AreDigits : List ℕ → Type 0
AreDigits ds = AreBetween 48 57 ds

pub decimal_digits : (n : ℕ) → n < 2 ^ 64 → AreDigits (decimal n)
decimal_digits n h =
    decimal_by_steps (λ m ds. AreDigits ds) (λ m lt. ((omega arith, omega arith), tt)) (λ m ds le p. joined 48 57 ds (48 + m % 10) p (omega arith) (omega arith)) n h

-- so a number is read in one way up to a byte that is no digit, or the end
abbrev pub EndsNumber : List ℕ → Type 0
EndsNumber t = EndsRun 48 57 t

pub cut_number : (m n : ℕ) (s t : List ℕ) → m < 2 ^ 64 → n < 2 ^ 64 → EndsNumber s → EndsNumber t → decimal m ++ s ≡ decimal n ++ t → (m ≡ n) × (s ≡ t)
cut_number m n s t hm hn hs ht e =
    let both = cut_run 48 57 (decimal m) (decimal n) s t (decimal_digits m hm) (decimal_digits n hn) hs ht e in
    (decimal_injective m n hm hn both.0, both.1)

pub dot_ends : (rest : List ℕ) → EndsNumber (46 ∷ rest)
dot_ends rest = inr (46, rest, inl (omega arith), refl)

pub bracket_ends : (rest : List ℕ) → EndsNumber (91 ∷ rest)
bracket_ends rest = inr (91, rest, inr (omega arith), refl)

pub close_ends : (rest : List ℕ) → EndsNumber (93 ∷ rest)
close_ends rest = inr (93, rest, inr (omega arith), refl)

pub line_ends : (rest : List ℕ) → EndsNumber (95 ∷ rest)
line_ends rest = inr (95, rest, inr (omega arith), refl)

-- two numbers with a byte between that is no digit
pub cut_two : (c i j k l : ℕ) (s t : List ℕ) → EndsNumber (c ∷ decimal j ++ s) → EndsNumber (c ∷ decimal l ++ t) → i < 2 ^ 64 → j < 2 ^ 64 → k < 2 ^ 64 → l < 2 ^ 64 → EndsNumber s → EndsNumber t
    → decimal i ++ c ∷ (decimal j ++ s) ≡ decimal k ++ c ∷ (decimal l ++ t) → (i ≡ k) × (j ≡ l)
cut_two c i j k l s t first second hi hj hk hl hs ht e =
    let one = cut_number i k (c ∷ (decimal j ++ s)) (c ∷ (decimal l ++ t)) hi hk first second e in
    let rest : decimal j ++ s ≡ decimal l ++ t = (let r = one.1 in cc) in
    (one.0, (cut_number j l s t hj hl hs ht rest).0)
