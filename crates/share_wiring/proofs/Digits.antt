-- Decimal digits in names.
use Rattle.std.proofs.Common.{◌≡◌, ◌≢◌, ◌<◌, ◌≤◌, ◌+◌, ◌%◌, ◌^◌, ◌++◌, ◌&&◌, ℕ, Bool, List, [], ◌∷◌, length, IsTrue, refl, arith, le-leb, length-append}
use Rattle.std.specs.List.{AllByRecursion}
use Rattle.std.specs.Fmt.{decimal}
use Rattle.std.proofs.lemmas.Fmt.{decimal_by_steps, decimal_injective}
use Rattle.agm_net.specs.Writable.{is_graphic}
use Rattle.agm_net.specs.Label.{IsSome, gadget_name}
use Rattle.agm_net.proofs.Lists.{all_from, all_joined}

-- each byte is a digit
abbrev pub AreDigits : List ℕ → Type 0
AreDigits ds = AllByRecursion (λ c. (48 ≤ c) × (c ≤ 57)) ds

pub decimal_digits : (n : ℕ) → n < 2 ^ 64 → AreDigits (decimal n)
decimal_digits n h =
    decimal_by_steps (λ m ds. AreDigits ds) (λ m lt. ((omega arith, omega arith), tt)) (λ m ds le p. all_joined (λ c. (48 ≤ c) × (c ≤ 57)) ds ((48 + m % 10) ∷ []) p ((omega arith, omega arith), tt)) n h

pub decimal_some : (n : ℕ) → n < 2 ^ 64 → IsSome (decimal n)
decimal_some n h =
    decimal_by_steps (λ m ds. 0 < length ds) (λ m lt. omega arith) (λ m ds le p. (let len = length-append ds ((48 + m % 10) ∷ []) in omega arith)) n h

-- no byte is c
abbrev pub HasNo : ℕ → List ℕ → Type 0
HasNo c bytes = AllByRecursion (λ b. b ≢ c) bytes

-- digits are none of the separators
pub digits_have_no : (c : ℕ) (ds : List ℕ) → c < 48 → AreDigits ds → HasNo c ds
digits_have_no c ds low h = all_from (λ b. (48 ≤ b) × (b ≤ 57)) (λ b. b ≢ c) (λ b d. (let le = d.0 in omega arith)) ds h

pub digits_have_none_above : (c : ℕ) (ds : List ℕ) → 57 < c → AreDigits ds → HasNo c ds
digits_have_none_above c ds high h = all_from (λ b. (48 ≤ b) × (b ≤ 57)) (λ b. b ≢ c) (λ b d. (let le = d.1 in omega arith)) ds h

-- a text is cut at the first c in one way
pub cut : (c : ℕ) (a b x y : List ℕ) → HasNo c a → HasNo c b → a ++ c ∷ x ≡ b ++ c ∷ y → (a ≡ b) × (x ≡ y)
cut c [] [] x y p q e = let r : x ≡ y = cc in (refl, r)
cut c [] (d ∷ b) x y p q e = let r : d ≡ c = cc in absurd (q.0 r)
cut c (d ∷ a) [] x y p q e = let r : d ≡ c = cc in absurd (p.0 r)
cut c (d ∷ a) (f ∷ b) x y p q e =
    let head : d ≡ f = cc in
    let tail : a ++ c ∷ x ≡ b ++ c ∷ y = cc in
    let both = cut c a b x y p.1 q.1 tail in
    let lists : d ∷ a ≡ f ∷ b = (let r = both.0 in cc) in
    (lists, both.1)

-- a number up to a separator below the digits
pub cut_number : (c m n : ℕ) (x y : List ℕ) → c < 48 → m < 2 ^ 64 → n < 2 ^ 64 → decimal m ++ c ∷ x ≡ decimal n ++ c ∷ y → (m ≡ n) × (x ≡ y)
cut_number c m n x y low hm hn e =
    let both = cut c (decimal m) (decimal n) x y (digits_have_no c (decimal m) low (decimal_digits m hm)) (digits_have_no c (decimal n) low (decimal_digits n hn)) e in
    (decimal_injective m n hm hn both.0, both.1)

-- or above them
pub cut_number_above : (c m n : ℕ) (x y : List ℕ) → 57 < c → m < 2 ^ 64 → n < 2 ^ 64 → decimal m ++ c ∷ x ≡ decimal n ++ c ∷ y → (m ≡ n) × (x ≡ y)
cut_number_above c m n x y high hm hn e =
    let both = cut c (decimal m) (decimal n) x y (digits_have_none_above c (decimal m) high (decimal_digits m hm)) (digits_have_none_above c (decimal n) high (decimal_digits n hn)) e in
    (decimal_injective m n hm hn both.0, both.1)

abbrev pub AreGraphic : List ℕ → Type 0
AreGraphic bytes = AllByRecursion (λ b. IsTrue (is_graphic b)) bytes

both_true : {a b : Bool} → IsTrue a → IsTrue b → IsTrue (a && b)
both_true p q = rw p q

-- digits can be written
pub digits_graphic : (ds : List ℕ) → AreDigits ds → AreGraphic ds
digits_graphic ds h = all_from (λ b. (48 ≤ b) × (b ≤ 57)) (λ b. IsTrue (is_graphic b)) (λ b d. (let low = d.0 in let high = d.1 in both_true (le-leb 33 b (omega arith)) (le-leb b 126 (omega arith)))) ds h

pub decimal_graphic : (n : ℕ) → n < 2 ^ 64 → AreGraphic (decimal n)
decimal_graphic n h = digits_graphic (decimal n) (decimal_digits n h)

-- a name tells its gadget
pub gadget_apart : (g k : ℕ) (s t : List ℕ) → g < 2 ^ 64 → k < 2 ^ 64 → gadget_name g s ≡ gadget_name k t → (g ≡ k) × (s ≡ t)
gadget_apart g k s t hg hk e =
    let rest : decimal g ++ 46 ∷ s ≡ decimal k ++ 46 ∷ t = cc in
    cut_number 46 g k s t (omega arith) hg hk rest
