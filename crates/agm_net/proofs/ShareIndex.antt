-- Names of ports with a share, and their indices.
use Rattle.std.proofs.Common.{◌≡◌, ◌≢◌, ◌≤◌, ◌<◌, ◌+◌, ◌-◌, ◌*◌, ◌%◌, ◌^◌, ◌++◌, ℕ, Bool, true, false, List, [], ◌∷◌, length, take, drop, get_or, codes, refl, sym, ap, subst, ◌∙◌, ◌⊎◌, add-one, suc, arith}
use Rattle.std.specs.Prelude.{◌==◌, position, Some, None}
use Rattle.std.specs.Char.{digit_value}
use Rattle.std.specs.Fmt.{decimal}
use Rattle.std.specs.List.{AllByRecursion, list_any}
use Rattle.std.specs.Str.Parse.{AllDigits, digits_value}
use Rattle.std.proofs.Math.Seq.{drop-cons}
use Rattle.std.proofs.lemmas.Bool.{cases_Bool, both_ways, eqb-true, eqb-false}
use Rattle.std.proofs.lemmas.Bool.Decides.{nat_tests}
use Rattle.std.proofs.lemmas.Fmt.{decimal_by_steps, decimal_injective, decimal_is_IsNumeral, decimal_nonempty, first_decimal, decimal_digit, decimal-digits_value}
use Rattle.std.proofs.lemmas.Int.Digits.{digits_value_more}
use Rattle.std.proofs.lemmas.List.{take_more, length-take, length-drop, get_or-take, get_or_default, take-append-drop}
use Rattle.std.proofs.lemmas.List.Elements.{recursion_from_All}
use Rattle.std.proofs.lemmas.List.Quantifiers.{position-Some}
use Rattle.std.proofs.lemmas.Str.Parse.{numerals_by_value, tells_digits}
use mathlib.Core.Logic.{⊎_elim, inl, inr}
use Rattle.agm_net.proofs.Finds.{not_any}
use Rattle.agm_net.specs.Role.{HasRole, IsOfShare, share_name, state_name}
use Rattle.agm_net.specs.declared.mark.Role.{Role}
use Rattle.agm_net.specs.declared.mark.Role.TheVariants.{Share, Random, Clock, Public}

-- no byte is an underscore
abbrev pub HasNoLine : List ℕ → Type 0
HasNoLine bytes = AllByRecursion (λ c. c ≢ 95) bytes

-- one more byte
no_line_more : (bytes : List ℕ) (c : ℕ) → HasNoLine bytes → c ≢ 95 → HasNoLine (bytes ++ c ∷ [])
no_line_more [] c h n = (n, tt)
no_line_more (b ∷ bytes) c h n = (h.0, no_line_more bytes c h.1 n)

-- a number in decimals has no underscore
pub decimal_has_no_line : (n : ℕ) → n < 2 ^ 64 → HasNoLine (decimal n)
decimal_has_no_line n h =
    decimal_by_steps (λ m ds. HasNoLine ds) (λ m lt. (omega arith, tt)) (λ m ds le p. no_line_more ds (48 + m % 10) p (omega arith)) n h

-- a text is cut at its first underscore in one way
pub split_unique : (a b x y : List ℕ) → HasNoLine a → HasNoLine b → a ++ 95 ∷ x ≡ b ++ 95 ∷ y → (a ≡ b) × (x ≡ y)
split_unique [] [] x y p q e = let r : x ≡ y = cc in (refl, r)
split_unique [] (d ∷ b) x y p q e = let r : d ≡ 95 = cc in absurd (q.0 r)
split_unique (c ∷ a) [] x y p q e = let r : c ≡ 95 = cc in absurd (p.0 r)
split_unique (c ∷ a) (d ∷ b) x y p q e =
    let head : c ≡ d = cc in
    let tail : a ++ 95 ∷ x ≡ b ++ 95 ∷ y = cc in
    let both = split_unique a b x y p.1 q.1 tail in
    let lists : c ∷ a ≡ d ∷ b = (let r = both.0 in cc) in
    (lists, both.1)

-- a name of a share has one index
pub share_index : (i j : ℕ) (x y : List ℕ) → i < 2 ^ 32 → j < 2 ^ 32 → share_name i x ≡ share_name j y → i ≡ j
share_index i j x y hi hj e =
    let rest : decimal i ++ 95 ∷ x ≡ decimal j ++ 95 ∷ y = cc in
    decimal_injective i j (omega arith) (omega arith) (split_unique (decimal i) (decimal j) x y (decimal_has_no_line i (omega arith)) (decimal_has_no_line j (omega arith)) rest).0

pub state_index : (i j : ℕ) → i < 2 ^ 32 → j < 2 ^ 32 → state_name i ≡ state_name j → i ≡ j
state_index i j hi hj e =
    let rest : decimal i ≡ decimal j = cc in
    decimal_injective i j (omega arith) (omega arith) rest

-- names whose fifth bytes differ
fifth_apart : (x y : List ℕ) → get_or x 4 0 ≢ get_or y 4 0 → x ≢ y
fifth_apart x y other same = other (ap (λ z. get_or z 4 0) same)

share_state : (i j : ℕ) (x : List ℕ) → share_name i x ≢ state_name j
share_state i j x = fifth_apart (share_name i x) (state_name j) (λ e. absurd (omega arith))

-- a name is of one share
of_one_share : (name : List ℕ) (i j : ℕ) → IsOfShare i name → IsOfShare j name → i ≡ j
of_one_share name i j p q =
    ⊎_elim
    (λ own. ⊎_elim
    (λ other. share_index i j own.0 other.0 p.0 q.0 (sym own.2 ∙ other.2))
    (λ other. absurd (share_state i j own.0 (sym own.2 ∙ other)))
    q.1)
    (λ own. ⊎_elim
    (λ other. absurd (share_state j i other.0 (sym other.2 ∙ own)))
    (λ other. state_index i j p.0 q.0 (sym own ∙ other))
    q.1)
    p.1

-- a name of a share has no fifth byte r or c
fifth_of_share : (name : List ℕ) (i : ℕ) → IsOfShare i name → (get_or name 4 0 ≡ 115) ⊎ (get_or name 4 0 ≡ 113)
fifth_of_share name i p =
    ⊎_elim
    (λ own. inl (ap (λ z. get_or z 4 0) own.2))
    (λ own. inr (ap (λ z. get_or z 4 0) own))
    p.1

not_random : (name : List ℕ) (i : ℕ) → IsOfShare i name → name ≢ codes "agm_r"
not_random name i p e =
    let at : get_or name 4 0 ≡ 114 = ap (λ z. get_or z 4 0) e in
    ⊎_elim (λ h. absurd (omega arith)) (λ h. absurd (omega arith)) (fifth_of_share name i p)

not_clock : (name : List ℕ) (i : ℕ) → IsOfShare i name → name ≢ codes "agm_clk"
not_clock name i p e =
    let at : get_or name 4 0 ≡ 99 = ap (λ z. get_or z 4 0) e in
    ⊎_elim (λ h. absurd (omega arith)) (λ h. absurd (omega arith)) (fifth_of_share name i p)

random_clock : (name : List ℕ) → name ≡ codes "agm_r" → name ≢ codes "agm_clk"
random_clock name p e =
    let one : get_or name 4 0 ≡ 114 = ap (λ z. get_or z 4 0) p in
    let other : get_or name 4 0 ≡ 99 = ap (λ z. get_or z 4 0) e in
    absurd (omega arith)

-- a name has one role
pub one_role : (name : List ℕ) (r s : Role) → HasRole name r → HasRole name s → r ≡ s
one_role name (Share i) (Share j) p q = ap (λ k. Share k) (of_one_share name i j p q)
one_role name (Share i) Random p q = absurd (not_random name i p q)
one_role name (Share i) Clock p q = absurd (not_clock name i p q)
one_role name (Share i) Public p q = absurd (q.0 i p)
one_role name Random (Share j) p q = absurd (not_random name j q p)
one_role name Random Random p q = refl
one_role name Random Clock p q = absurd (random_clock name p q)
one_role name Random Public p q = absurd (q.1 p)
one_role name Clock (Share j) p q = absurd (not_clock name j q p)
one_role name Clock Random p q = absurd (random_clock name q p)
one_role name Clock Clock p q = refl
one_role name Clock Public p q = absurd (q.2 p)
one_role name Public (Share j) p q = absurd (p.0 j q)
one_role name Public Random p q = absurd (p.1 q)
one_role name Public Clock p q = absurd (p.2 q)
one_role name Public Public p q = refl

-- the value of a digit
pub digit_is : (c : ℕ) → 48 ≤ c → c ≤ 57 → digit_value c ≡ c - 48
digit_is c low high = grind (arith, nat_tests)

-- one more digit
pub digits_more : (ds : List ℕ) (c : ℕ) → AllDigits 10 ds → digit_value c < 10 → AllDigits 10 (ds ++ c ∷ [])
digits_more [] c h d = (d, tt)
digits_more (b ∷ bs) c h d = (h.0, digits_more bs c h.1 d)

-- a number in decimals has a byte, and a zero in front stands alone
pub unpadded : (i : ℕ) → i < 2 ^ 32 → (0 < length (decimal i)) × (get_or (decimal i) 0 0 ≡ 48 → length (decimal i) ≡ 1)
unpadded i small = (
  decimal_nonempty i (omega arith),
  λ zero. ⊎_elim
      (λ positive. let above = first_decimal i positive (omega arith) in absurd (omega arith))
      (λ none. ap (λ (xs : List ℕ). length xs) (decimal_digit i (omega arith)))
      (let cases : (0 < i) ⊎ (i ≡ 0) = grind arith in cases),
)

pub none_from_padded : (ds : List ℕ) → ((0 < length ds) × (get_or ds 0 0 ≡ 48 → length ds ≡ 1) → ⊥) → (i : ℕ) → i < 2 ^ 32 → ds ≢ decimal i
none_from_padded ds wrong i small same = wrong (subst (λ (xs : List ℕ). (0 < length xs) × (get_or xs 0 0 ≡ 48 → length xs ≡ 1)) (sym same) (unpadded i small))

pub none_from_value : (ds : List ℕ) → (AllDigits 10 ds → 2 ^ 32 ≤ digits_value 10 ds) → (i : ℕ) → i < 2 ^ 32 → ds ≢ decimal i
none_from_value ds large i small same =
    let own = decimal_is_IsNumeral i (omega arith) in
    let digits : AllDigits 10 ds = subst (λ (xs : List ℕ). AllDigits 10 xs) (sym same) own.0.1 in
    let value : digits_value 10 ds ≡ i = ap (λ (xs : List ℕ). digits_value 10 xs) same ∙ own.1 in
    let above = large digits in
    absurd (omega arith)

-- digits without a leading zero are those of their value
pub written : (ds : List ℕ) (n : ℕ) → AllDigits 10 ds → n ≡ digits_value 10 ds → n < 2 ^ 32 → 0 < length ds → (get_or ds 0 0 ≡ 48 → length ds ≡ 1) → ds ≡ decimal n
written ds n digits value small some zero =
    sym (ap decimal value ∙ decimal-digits_value (numerals_by_value (AllDigits 10) tells_digits) ds digits some zero (omega arith))

-- a text without its first underscore: what stands before it, and what stands behind
no_line_before : (bytes : List ℕ) (end : ℕ) → end ≤ length bytes → ((k : ℕ) → k < end → (get_or bytes k 0 == 95) ≡ false) → HasNoLine (take end bytes)
no_line_before bytes end within before =
    let short : length (take end bytes) ≤ end = omega (arith, length-take end bytes) in
    recursion_from_All (λ c. c ≢ 95) (take end bytes)
    (λ k d h.
    let at : get_or (take end bytes) k d ≡ get_or bytes k d = get_or-take end bytes k d (omega arith) in
    let same : get_or bytes k d ≡ get_or bytes k 0 = get_or_default bytes k d 0 (omega arith) in
    let other = eqb-false _ _ (before k (omega arith)) in
    λ is. other (sym same ∙ (sym at ∙ is)))

cut_at : (bytes : List ℕ) (end : ℕ) → end < length bytes → get_or bytes end 0 ≡ 95 → bytes ≡ take end bytes ++ 95 ∷ drop (end + 1) bytes
cut_at bytes end within at =
    let seam = take-append-drop end bytes in
    let head : drop end bytes ≡ 95 ∷ drop (end + 1) bytes = rw (add-one, drop-cons bytes end 0) (ap (λ c. c ∷ drop (suc end) bytes) at) in
    sym seam ∙ ap (λ xs. take end bytes ++ xs) head

-- an underscore stands among these bytes
pub any_line : (front rest : List ℕ) → list_any (λ b. b == 95) (front ++ 95 ∷ rest) ≡ true
any_line [] rest = refl
any_line (b ∷ bs) rest = let more = any_line bs rest in ⊎_elim (λ yes. rw yes refl) (λ no. rw no more) (cases_Bool (b == 95))

module _ (bytes : List ℕ) where
  abbrev is_line : ℕ → Bool
  is_line b = b == 95

  -- no underscore, and nothing stands before one
  pub none_before : position is_line bytes ≡ None → (front rest : List ℕ) → HasNoLine front → 0 < length rest → bytes ≢ front ++ 95 ∷ rest
  none_before none front rest plain some same =
      let any : list_any is_line bytes ≡ true = subst (λ (xs : List ℕ). list_any is_line xs ≡ true) (sym same) (any_line front rest) in
      both_ways (list_any is_line bytes) (not_any is_line bytes none) any

  module _ (end : ℕ) (found : position is_line bytes ≡ Some end) where
    place : (end < length bytes) × ((get_or bytes end 0 == 95) ≡ true) × ((k : ℕ) → k < end → (get_or bytes k 0 == 95) ≡ false)
    place = position-Some is_line bytes end 0 found

    -- what stands before the first underscore, and behind it
    pub front_plain : HasNoLine (take end bytes)
    front_plain = no_line_before bytes end (omega (arith, place.0)) place.2

    pub cut_here : bytes ≡ take end bytes ++ 95 ∷ drop (end + 1) bytes
    cut_here = cut_at bytes end place.0 (eqb-true _ _ place.1)

    pub within : end < length bytes
    within = place.0

    -- the first underscore is the last byte
    pub none_behind : end + 1 ≡ length bytes → (front rest : List ℕ) → HasNoLine front → 0 < length rest → bytes ≢ front ++ 95 ∷ rest
    none_behind last front rest plain some same =
        let parts = split_unique (take end bytes) front (drop (end + 1) bytes) rest front_plain plain (sym cut_here ∙ same) in
        let empty : length (drop (end + 1) bytes) ≡ 0 = omega (arith, length-drop (end + 1) bytes) in
        absurd (omega (arith, ap (λ (xs : List ℕ). length xs) parts.1))

-- one digit more
pub number_more : (ds : List ℕ) (i n m : ℕ) → i < length ds → AllDigits 10 (take i ds) × (n ≡ digits_value 10 (take i ds)) → 48 ≤ get_or ds i 0 → get_or ds i 0 ≤ 57 → m ≡ n * 10 + (get_or ds i 0 - 48)
    → AllDigits 10 (take (i + 1) ds) × (m ≡ digits_value 10 (take (i + 1) ds))
number_more ds i n m h before low high added =
    let digit = digit_is (get_or ds i 0) low high in
    let value = digits_value_more 10 ds i h in
    let more = take_more ds i 0 h in
    (subst (AllDigits 10) (sym more) (digits_more (take i ds) (get_or ds i 0) before.0 (omega arith)), omega (arith, value, digit, before.1))

-- a name of a share, cut behind its first five bytes and at its first underscore
module _ (name behind digits rest : List ℕ) (front : name ≡ codes "agm_s" ++ behind) (plain : HasNoLine digits) (some : 0 < length rest) (cut : behind ≡ digits ++ 95 ∷ rest) where
  pub share_from : (i : ℕ) → digits ≡ decimal i → (x : List ℕ) × (0 < length x) × (name ≡ share_name i x)
  share_from i is = (rest, some, front ∙ ap (λ xs. codes "agm_s" ++ xs) (cut ∙ ap (λ xs. xs ++ 95 ∷ rest) is))

  pub share_not : ((i : ℕ) → i < 2 ^ 32 → digits ≢ decimal i) → (i : ℕ) (x : List ℕ) → i < 2 ^ 32 → 0 < length x → name ≢ share_name i x
  share_not wrong i x small long same =
      let tails : behind ≡ decimal i ++ 95 ∷ x = let whole = sym front ∙ same in cc in
      wrong i small (split_unique digits (decimal i) rest x plain (decimal_has_no_line i (omega arith)) (sym cut ∙ tails)).0

-- a name without such a cut is none
pub share_never : (name behind : List ℕ) → name ≡ codes "agm_s" ++ behind → ((front rest : List ℕ) → HasNoLine front → 0 < length rest → behind ≢ front ++ 95 ∷ rest)
    → (i : ℕ) (x : List ℕ) → i < 2 ^ 32 → 0 < length x → name ≢ share_name i x
share_never name behind front wrong i x small long same =
    let tails : behind ≡ decimal i ++ 95 ∷ x = let whole = sym front ∙ same in cc in
    wrong (decimal i) x (decimal_has_no_line i (omega arith)) long tails
