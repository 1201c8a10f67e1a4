-- Facts on lists.
use Rattle.std.proofs.Common.{◌≡◌, ◌<◌, ◌≤◌, ◌+◌, ◌++◌, ◌==◌, ℕ, zero, suc, Bool, true, false, List, [], ◌∷◌, map, cond, IsTrue, refl, ap, ap₂, ◌∙◌, subst, zero-add, arith, inl, inr, length, count_by, slice_get, slice_index_or, Some, eq-eqb}
use Rattle.std.specs.List.{AllByRecursion, list_any}
use Rattle.std.proofs.lemmas.Bool.{eqb-true, or_cases, or_left, or_right, or_parts, cases_Bool}
use Rattle.std.proofs.lemmas.List.Sums.{sum_by-cons, sum_by-append}

-- what holds of each of two lists holds of each in both
pub all_joined : {X : Type 0} (P : X → Type 0) (xs ys : List X) → AllByRecursion P xs → AllByRecursion P ys → AllByRecursion P (xs ++ ys)
all_joined P [] ys h g = g
all_joined P (x ∷ xs) ys h g = (h.0, all_joined P xs ys h.1 g)

-- what holds of each follows from what does
pub all_from : {X : Type 0} (P Q : X → Type 0) → ((x : X) → P x → Q x) → (xs : List X) → AllByRecursion P xs → AllByRecursion Q xs
all_from P Q f [] h = tt
all_from P Q f (x ∷ xs) h = (f x h.0, all_from P Q f xs h.1)

-- what holds of each holds of the one at a place
pub all_of_one : {X : Type 0} (P : X → Type 0) (xs : List X) (n : ℕ) (x : X) → AllByRecursion P xs → slice_get xs n ≡ Some x → P x
all_of_one P [] n x h at = absurd (cc)
all_of_one P (y ∷ ys) zero x h at = let same : y ≡ x = cc in subst P same h.0
all_of_one P (y ∷ ys) (suc n) x h at = all_of_one P ys n x h.1 at

-- what holds of the item at each place holds of each item
pub all_places : {X : Type 0} (P : X → Type 0) (xs : List X) → ((n : ℕ) (x : X) → slice_get xs n ≡ Some x → P x) → AllByRecursion P xs
all_places P [] h = tt
all_places P (x ∷ xs) h = (h 0 x refl, all_places P xs (λ n. h (suc n)))

-- what holds of each wire that is found in a list holds of each in it
pub all_found : (P : ℕ → Type 0) (ws : List ℕ) → ((w : ℕ) → IsTrue (list_any (λ b. b == w) ws) → P w) → AllByRecursion P ws
all_found P [] h = tt
all_found P (v ∷ vs) h =
    (h v (or_left (v == v) (list_any (λ b. b == v) vs) (eq-eqb v v refl)), all_found P vs (λ w found. h w (or_right (v == w) (list_any (λ b. b == w) vs) found)))

-- and what holds of each in it holds of one that is found there
pub found_of_all : (P : ℕ → Type 0) (ws : List ℕ) → AllByRecursion P ws → (w : ℕ) → IsTrue (list_any (λ b. b == w) ws) → P w
found_of_all P [] h w found = absurd (let no : false ≡ true = found in cc)
found_of_all P (v ∷ vs) h w found =
    elim (or_cases (v == w) (list_any (λ b. b == w) vs) found) [ inl is ↦ subst P (eqb-true v w is) h.0 | inr there ↦ found_of_all P vs h.1 w there ]

-- lists of the same images
pub map_same : {X Y : Type 0} (f g : X → Y) (xs : List X) → AllByRecursion (λ x. f x ≡ g x) xs → map f xs ≡ map g xs
map_same f g [] h = refl
map_same f g (x ∷ xs) h = let head : f x ≡ g x = h.0 in let tail = map_same f g xs h.1 in cc

-- the image at a place
pub get_image : {X Y : Type 0} (f : X → Y) (xs : List X) (n : ℕ) (x : X) → slice_get xs n ≡ Some x → slice_get (map f xs) n ≡ Some (f x)
get_image f [] n x at = absurd (cc)
get_image f (y ∷ ys) zero x at = let same : y ≡ x = cc in ap (λ z. Some (f z)) same
get_image f (y ∷ ys) (suc n) x at = get_image f ys n x at

-- a row of bits, given by its places
pub row_is : {X : Type 0} (f : X → Bool) (xs : List X) (row : List Bool) → length row ≡ length xs → ((n : ℕ) (x : X) → slice_get xs n ≡ Some x → f x ≡ slice_index_or row n false) → map f xs ≡ row
row_is f [] [] long h = refl
row_is f [] (b ∷ bs) long h = absurd (omega arith)
row_is f (x ∷ xs) [] long h = absurd (omega arith)
row_is f (x ∷ xs) (b ∷ bs) long h = ap₂ (λ y ys. y ∷ ys) (h 0 x refl) (row_is f xs bs (omega arith) (λ n. h (suc n)))

-- two lists of equal items
pub items_same : {X : Type 0} (d : X) (xs ys : List X) → length xs ≡ length ys → ((n : ℕ) → n < length xs → slice_index_or xs n d ≡ slice_index_or ys n d) → xs ≡ ys
items_same d [] [] long h = refl
items_same d [] (y ∷ ys) long h = absurd (omega arith)
items_same d (x ∷ xs) [] long h = absurd (omega arith)
items_same d (x ∷ xs) (y ∷ ys) long h = ap₂ (λ z zs. z ∷ zs) (h 0 (omega arith)) (items_same d xs ys (omega arith) (λ n lt. h (suc n) (omega arith)))

-- counts of one item more
pub count_yes : {X : Type 0} (test : X → Bool) (x : X) (xs : List X) → IsTrue (test x) → count_by test (x ∷ xs) ≡ 1 + count_by test xs
count_yes test x xs h = sum_by-cons (λ y. cond (test y) 1 0) x xs ∙ ap (λ b. cond b 1 0 + count_by test xs) h

-- and of one that fails
pub count_no : {X : Type 0} (test : X → Bool) (x : X) (xs : List X) → test x ≡ false → count_by test (x ∷ xs) ≡ count_by test xs
count_no test x xs h = sum_by-cons (λ y. cond (test y) 1 0) x xs ∙ (ap (λ b. cond b 1 0 + count_by test xs) h ∙ zero-add (count_by test xs))

-- a count with one item more
pub count_more : {X : Type 0} (test : X → Bool) (x : X) (xs : List X) → count_by test xs ≤ count_by test (x ∷ xs)
count_more test x xs = let split = sum_by-cons (λ y. cond (test y) 1 0) x xs in omega arith

-- the count in two lists
pub count_append : {X : Type 0} (test : X → Bool) (xs ys : List X) → count_by test (xs ++ ys) ≡ count_by test xs + count_by test ys
count_append test xs ys = sum_by-append (λ y. cond (test y) 1 0) xs ys

-- where one passes, some are counted
pub count_some : {X : Type 0} (test : X → Bool) (xs : List X) → IsTrue (list_any test xs) → 1 ≤ count_by test xs
count_some test [] some = absurd (let no : false ≡ true = some in cc)
count_some test (x ∷ xs) some =
    elim (or_cases (test x) (list_any test xs) some) [
      | inl here ↦ (let one = count_yes test x xs here in omega arith)
      | inr there ↦ (let rest = count_some test xs there in let more = count_more test x xs in omega arith)
    ]

-- no item passes, none is counted
pub count_none : {X : Type 0} (test : X → Bool) (xs : List X) → list_any test xs ≡ false → count_by test xs ≡ 0
count_none test [] none = refl
count_none test (x ∷ xs) none =
    let parts = or_parts (test x) (list_any test xs) none in count_no test x xs parts.0 ∙ count_none test xs parts.1

-- an item is counted, one passes
pub some_counted : {X : Type 0} (test : X → Bool) (xs : List X) → 1 ≤ count_by test xs → IsTrue (list_any test xs)
some_counted test xs more =
    elim (cases_Bool (list_any test xs)) [ inl some ↦ some | inr none ↦ absurd (let zero_all = count_none test xs none in omega arith) ]

-- none is counted, none passes
pub none_counted : {X : Type 0} (test : X → Bool) (xs : List X) → count_by test xs ≡ 0 → list_any test xs ≡ false
none_counted test xs none =
    elim (cases_Bool (list_any test xs)) [ inl some ↦ absurd (let one = count_some test xs some in omega arith) | inr none_passes ↦ none_passes ]

-- the item at a place that passes
pub any_at : {X : Type 0} (test : X → Bool) (xs : List X) (n : ℕ) (x : X) → slice_get xs n ≡ Some x → test x ≡ true → IsTrue (list_any test xs)
any_at test [] n x at passes = absurd (cc)
any_at test (y ∷ ys) zero x at passes = let same : y ≡ x = cc in or_left (test y) (list_any test ys) (ap test same ∙ passes)
any_at test (y ∷ ys) (suc n) x at passes = or_right (test y) (list_any test ys) (any_at test ys n x at passes)

-- and a place of one that passes
pub place_of_any : {X : Type 0} (test : X → Bool) (xs : List X) → IsTrue (list_any test xs) → (n : ℕ) × (x : X) × (slice_get xs n ≡ Some x) × (test x ≡ true)
place_of_any test [] any = absurd (let no : false ≡ true = any in cc)
place_of_any test (x ∷ xs) any =
    elim (or_cases (test x) (list_any test xs) any) [
      | inl passes ↦ (0, x, refl, passes)
      | inr more ↦ (let rest = place_of_any test xs more in (suc rest.0, rest.1, rest.2, rest.3))
    ]
