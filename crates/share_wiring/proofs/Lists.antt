-- Facts on lists.
use Rattle.std.proofs.Common.{ne_eqb, eq-eqb, ◌≡◌, ◌<◌, ◌≤◌, ◌+◌, ◌++◌, ℕ, zero, suc, Bool, true, false, ◌==◌, List, [], ◌∷◌, map, filter, IsTrue, refl, ap, ap₂, ◌∙◌, subst, zero-add, arith, inl, inr, length, count_by, flat_map}
use Rattle.std.specs.List.{AllByRecursion, list_any, range_with_len}
use Rattle.std.proofs.lemmas.Bool.{eqb-true, or_cases, cases_Bool, cases_eq}
use Rattle.std.proofs.lemmas.List.{map-append}
use Rattle.agm_net.proofs.Lists.{count_yes, count_no}

-- what holds of each, of each in the first of two lists
pub all_front : {X : Type 0} (P : X → Type 0) (xs ys : List X) → AllByRecursion P (xs ++ ys) → AllByRecursion P xs
all_front P [] ys h = tt
all_front P (x ∷ xs) ys h = (h.0, all_front P xs ys h.1)

-- and of each in the second
pub all_back : {X : Type 0} (P : X → Type 0) (xs ys : List X) → AllByRecursion P (xs ++ ys) → AllByRecursion P ys
all_back P [] ys h = h
all_back P (x ∷ xs) ys h = all_back P xs ys h.1

-- what holds of each follows from two things that do
pub all_both : {X : Type 0} (P Q R : X → Type 0) → ((x : X) → P x → Q x → R x) → (xs : List X) → AllByRecursion P xs → AllByRecursion Q xs → AllByRecursion R xs
all_both P Q R f [] h g = tt
all_both P Q R f (x ∷ xs) h g = (f x h.0 g.0, all_both P Q R f xs h.1 g.1)

-- what holds of each item that numbers in a row give
pub all_at : {X : Type 0} (P : X → Type 0) (f : ℕ → X) (a n : ℕ) → AllByRecursion P (map f (range_with_len a n)) → (i : ℕ) → i < n → P (f (a + i))
all_at P f a zero h i lt = absurd (omega arith)
all_at P f a (suc n) h zero lt = let same : a ≡ a + 0 = omega arith in subst (λ k. P (f k)) same h.0
all_at P f a (suc n) h (suc i) lt =
    let same : (a + 1) + i ≡ a + suc i = omega arith in
    subst (λ k. P (f k)) same (all_at P f (a + 1) n h.1 i (omega arith))

-- the same from 0 on
pub all_below : {X : Type 0} (P : X → Type 0) (f : ℕ → X) (n : ℕ) → AllByRecursion P (map f (range_with_len 0 n)) → (i : ℕ) → i < n → P (f i)
all_below P f n h i lt = subst (λ k. P (f k)) (zero-add i) (all_at P f 0 n h i lt)

-- two functions that agree on a list agree on the items that pass a test
pub flat_map_filtered : {X Y : Type 0} (f g : X → List Y) (test : X → Bool) (xs : List X) → AllByRecursion (λ x. f x ≡ g x) xs → flat_map f (filter test xs) ≡ flat_map g (filter test xs)
flat_map_filtered f g test [] h = refl
flat_map_filtered f g test (x ∷ xs) h =
    let head : f x ≡ g x = h.0 in
    let tail = flat_map_filtered f g test xs h.1 in
    elim (cases_Bool (test x)) [ inl kept ↦ rw kept (ap₂ (λ ys zs. ys ++ zs) head tail) | inr left ↦ rw left tail ]

-- no lists joined are no list
pub flat_map_nothing : {X Y : Type 0} (f : X → List Y) (xs : List X) → ((x : X) → f x ≡ []) → flat_map f xs ≡ []
flat_map_nothing f [] none = refl
flat_map_nothing f (x ∷ xs) none = rw (none x) (flat_map_nothing f xs none)

-- the images of joined lists
pub map_flat_map : {X Y Z : Type 0} (g : Y → Z) (f : X → List Y) (xs : List X) → map g (flat_map f xs) ≡ flat_map (λ x. map g (f x)) xs
map_flat_map g f [] = refl
map_flat_map g f (x ∷ xs) = map-append g (f x) (flat_map f xs) ∙ ap (λ ys. map g (f x) ++ ys) (map_flat_map g f xs)

-- two functions that give a list the same images agree at each of its numbers
pub agree_at : (f g : ℕ → Bool) (xs : List ℕ) → map f xs ≡ map g xs → (w : ℕ) → IsTrue (list_any (λ b. b == w) xs) → f w ≡ g w
agree_at f g [] same w some = absurd (let no : false ≡ true = some in cc)
agree_at f g (x ∷ xs) same w some =
    let head : f x ≡ g x = cc in
    let tail : map f xs ≡ map g xs = cc in
    elim (or_cases (x == w) (list_any (λ b. b == w) xs) some) [ inl here ↦ let is : x ≡ w = eqb-true x w here in cc | inr later ↦ agree_at f g xs tail w later ]

-- a list that is as long as an empty one is empty
pub no_items : {X Y : Type 0} (xs : List X) (ys : List Y) → length xs ≡ length ys → ys ≡ [] → xs ≡ []
no_items [] ys long empty = refl
no_items (x ∷ xs) [] long empty = absurd (omega arith)
no_items (x ∷ xs) (y ∷ ys) long empty = absurd (cc)

-- what holds of each number in a row holds of each item that they give
pub all_in_range : {X : Type 0} (P : X → Type 0) (f : ℕ → X) (a n : ℕ) → ((i : ℕ) → i < a + n → P (f i)) → AllByRecursion P (map f (range_with_len a n))
all_in_range P f a zero h = tt
all_in_range P f a (suc n) h = (h a (omega arith), all_in_range P f (a + 1) n (λ i lt. h i (omega arith)))

-- how often a number is in a row
pub row_before : (a n w : ℕ) → w < a → count_by (λ b. b == w) (range_with_len a n) ≡ 0
row_before a zero w lt = refl
row_before a (suc n) w lt = count_no (λ b. b == w) a (range_with_len (a + 1) n) (ne_eqb a w (λ e. (let same = e in omega arith))) ∙ row_before (a + 1) n w (omega arith)

pub row_once : (a n w : ℕ) → count_by (λ b. b == w) (range_with_len a n) ≤ 1
row_once a zero w = omega arith
row_once a (suc n) w =
    elim (cases_eq a w) [
      | inl same ↦ (let one = count_yes (λ b. b == w) a (range_with_len (a + 1) n) (eq-eqb a w same) in let rest = row_before (a + 1) n w (omega arith) in omega (arith, one, rest))
      | inr other ↦ (let no_more = count_no (λ b. b == w) a (range_with_len (a + 1) n) (ne_eqb a w other) in let rest = row_once (a + 1) n w in omega (arith, no_more, rest))
    ]
