-- Names among names, and how often they stand there.
use Rattle.std.proofs.Common.{◌≡◌, ◌<◌, ◌+◌, ℕ, zero, suc, Bool, true, false, ◌||◌, cond, List, [], ◌∷◌, ◌++◌, length, count_by, slice_get, Some, refl, sym, ap, subst, ◌∙◌, inl, inr, arith}
use Rattle.std.specs.Bool.{one_answer}
use Rattle.std.specs.List.{list_any, AllByRecursion}
use Rattle.std.specs.Str.{bytes_eq}
use Rattle.std.proofs.lemmas.Slice.Eq.{bytes_eq-Decides}
use Rattle.std.proofs.lemmas.List.Sums.{sum_by-cons, sum_by-append}
use Rattle.std.proofs.lemmas.List.Folds.{list_any-append}
use Rattle.std.proofs.lemmas.Bool.{both_ways, or_cases, or_left, or_right, or_parts, cases_Bool, false_from_ne_true}
use Rattle.agm_net.specs.WellFormed.{Differ}
use Rattle.module_rules.specs.Items.{is_among}

-- names that pass the test of names are the same
pub same_names : (a b : List ℕ) → bytes_eq a b ≡ true → a ≡ b
same_names a b h = (bytes_eq-Decides a b).0 h

-- a name passes the test with itself
pub name_itself : (a : List ℕ) → bytes_eq a a ≡ true
name_itself a = (bytes_eq-Decides a a).1 refl

-- the test of names goes both ways
pub swapped_test : (a b : List ℕ) → bytes_eq a b ≡ bytes_eq b a
swapped_test a b = one_answer (bytes_eq a b) (bytes_eq b a) (bytes_eq-Decides a b) ((λ e. sym ((bytes_eq-Decides b a).0 e)), (λ e. (bytes_eq-Decides b a).1 (sym e)))

-- what holds of each name holds of one among them, and the converse
pub all_at : (P : List ℕ → Type 0) (xs : List (List ℕ)) (n : List ℕ) → AllByRecursion P xs → is_among xs n ≡ true → P n
all_at P [] n all here = absurd (both_ways false refl here)
all_at P (x ∷ xs) n all here =
    elim (or_cases (bytes_eq x n) (is_among xs n) here) [ inl e ↦ subst P (same_names x n e) all.0 | inr later ↦ all_at P xs n all.1 later ]

-- what holds of each name among them holds of each name
pub all_from : (P : List ℕ → Type 0) (xs : List (List ℕ)) → ((n : List ℕ) → is_among xs n ≡ true → P n) → AllByRecursion P xs
all_from P [] f = tt
all_from P (x ∷ xs) f = (f x (or_left (bytes_eq x x) (is_among xs x) (name_itself x)), all_from P xs (λ n h. f n (or_right (bytes_eq x n) (is_among xs n) h)))

-- a name of the first list is one of both lists
pub among_front : (xs ys : List (List ℕ)) (n : List ℕ) → is_among xs n ≡ true → is_among (xs ++ ys) n ≡ true
among_front xs ys n h = list_any-append (λ m. bytes_eq m n) xs ys ∙ or_left (is_among xs n) (is_among ys n) h

-- a name of the second list is one of both lists
pub among_back : (xs ys : List (List ℕ)) (n : List ℕ) → is_among ys n ≡ true → is_among (xs ++ ys) n ≡ true
among_back xs ys n h = list_any-append (λ m. bytes_eq m n) xs ys ∙ or_right (is_among xs n) (is_among ys n) h

-- a name of both lists is one of the first or of the second
pub among_append : (xs ys : List (List ℕ)) (n : List ℕ) → is_among (xs ++ ys) n ≡ (is_among xs n || is_among ys n)
among_append xs ys n = list_any-append (λ m. bytes_eq m n) xs ys

-- the steps of a count
pub count-yes : {X : Type 0} (p : X → Bool) (x : X) (xs : List X) → p x ≡ true → count_by p (x ∷ xs) ≡ 1 + count_by p xs
count-yes p x xs h = sum_by-cons (λ y. cond (p y) 1 0) x xs ∙ ap (λ b. cond b 1 0 + count_by p xs) h

-- an element that fails is not counted
pub count-no : {X : Type 0} (p : X → Bool) (x : X) (xs : List X) → p x ≡ false → count_by p (x ∷ xs) ≡ count_by p xs
count-no p x xs h = let e : count_by p (x ∷ xs) ≡ 0 + count_by p xs = sum_by-cons (λ y. cond (p y) 1 0) x xs ∙ ap (λ b. cond b 1 0 + count_by p xs) h in omega arith

-- a count over two lists is the sum of their counts
pub count-append : {X : Type 0} (p : X → Bool) (xs ys : List X) → count_by p (xs ++ ys) ≡ count_by p xs + count_by p ys
count-append p xs ys = sum_by-append (λ y. cond (p y) 1 0) xs ys

-- where nothing passes the count is 0
pub count_none : {X : Type 0} (p : X → Bool) (xs : List X) → list_any p xs ≡ false → count_by p xs ≡ 0
count_none p [] h = refl
count_none p (x ∷ xs) h = let o = or_parts (p x) (list_any p xs) h in count-no p x xs o.0 ∙ count_none p xs o.1

-- where the count is 0 nothing passes
pub none_counted : {X : Type 0} (p : X → Bool) (xs : List X) → count_by p xs ≡ 0 → list_any p xs ≡ false
none_counted p [] h = refl
none_counted p (x ∷ xs) h =
    elim (cases_Bool (p x)) [
      | inl e ↦ let c = count-yes p x xs e in absurd (omega arith)
      | inr e ↦ let c = count-no p x xs e in ap (λ b. b || list_any p xs) e ∙ none_counted p xs (sym c ∙ h)
    ]

-- where something passes the count is above 0
pub some_counted : {X : Type 0} (p : X → Bool) (xs : List X) → list_any p xs ≡ true → 0 < count_by p xs
some_counted p [] h = absurd (both_ways false refl h)
some_counted p (x ∷ xs) h =
    elim (or_cases (p x) (list_any p xs) h) [
      | inl e ↦ let c = count-yes p x xs e in omega arith
      | inr later ↦ let i = some_counted p xs later in elim (cases_Bool (p x)) [ inl e ↦ (let c = count-yes p x xs e in omega arith) | inr e ↦ (let c = count-no p x xs e in omega arith) ]
    ]

-- where the count is 1 something passes
pub counted_some : {X : Type 0} (p : X → Bool) (xs : List X) → count_by p xs ≡ 1 → list_any p xs ≡ true
counted_some p xs h = elim (cases_Bool (list_any p xs)) [ inl e ↦ e | inr e ↦ (let c = count_none p xs e in absurd (omega arith)) ]

-- each name is none of those behind it
abbrev pub Apart : List (List ℕ) → Type 0
Apart [] = Unit {0}
Apart (n ∷ ns) = (is_among ns n ≡ false) × Apart ns

-- names that are each counted once differ
pub apart_from_counts : (xs : List (List ℕ)) → ((n : List ℕ) → is_among xs n ≡ true → count_by (λ m. bytes_eq m n) xs ≡ 1) → Apart xs
apart_from_counts [] f = tt
apart_from_counts (x ∷ xs) f =
    let self = f x (or_left (bytes_eq x x) (is_among xs x) (name_itself x)) in
    let here = count-yes (λ m. bytes_eq m x) x xs (name_itself x) in
    let none : count_by (λ m. bytes_eq m x) xs ≡ 0 = omega arith in (
      none_counted (λ m. bytes_eq m x) xs none,
      apart_from_counts xs (λ n h.
          let all = f n (or_right (bytes_eq x n) (is_among xs n) h) in
          let some = some_counted (λ m. bytes_eq m n) xs h in
          elim (cases_Bool (bytes_eq x n)) [
            | inl e ↦ let c = count-yes (λ m. bytes_eq m n) x xs e in absurd (omega arith)
            | inr e ↦ sym (count-no (λ m. bytes_eq m n) x xs e) ∙ all
          ]),
    )

-- names of the first list differ
pub apart_front : (xs ys : List (List ℕ)) → Apart (xs ++ ys) → Apart xs
apart_front [] ys a = tt
apart_front (x ∷ xs) ys a = ((or_parts (is_among xs x) (is_among ys x) (sym (among_append xs ys x) ∙ a.0)).0, apart_front xs ys a.1)

-- names of the second list differ
pub apart_back : (xs ys : List (List ℕ)) → Apart (xs ++ ys) → Apart ys
apart_back [] ys a = a
apart_back (x ∷ xs) ys a = apart_back xs ys a.1

-- no name of the second list is one of the first
pub apart_sides : (xs ys : List (List ℕ)) (n : List ℕ) → Apart (xs ++ ys) → is_among ys n ≡ true → is_among xs n ≡ false
apart_sides [] ys n a h = refl
apart_sides (x ∷ xs) ys n a h =
    elim (cases_Bool (bytes_eq x n)) [
      | inl e ↦ let none : is_among (xs ++ ys) n ≡ false = subst (λ m. is_among (xs ++ ys) m ≡ false) (same_names x n e) a.0 in
          absurd (both_ways (is_among (xs ++ ys) n) none (among_back xs ys n h))
      | inr e ↦ ap (λ b. b || is_among xs n) e ∙ apart_sides xs ys n a.1 h
    ]

-- the place of a name, and the name at a place
pub place_of : (xs : List (List ℕ)) (n : List ℕ) → is_among xs n ≡ true → (k : ℕ) × (k < length xs) × (slice_get xs k ≡ Some n)
place_of [] n h = absurd (both_ways false refl h)
place_of (x ∷ xs) n h =
    elim (or_cases (bytes_eq x n) (is_among xs n) h) [
      | inl e ↦ (zero, omega arith, ap (λ (m : List ℕ). Some m) (same_names x n e))
      | inr later ↦ let i = place_of xs n later in let lt : i.0 < length xs = i.1 in (suc i.0, omega arith, i.2)
    ]

-- names that differ by place are none of those behind them
pub apart_from_differ : (xs : List (List ℕ)) → Differ xs → Apart xs
apart_from_differ [] d = tt
apart_from_differ (x ∷ xs) d = (
  false_from_ne_true (is_among xs x) (λ h. let i = place_of xs x h in let lt : i.0 < length xs = i.1 in d zero (suc i.0) (omega arith) (omega arith) (sym i.2)),
  apart_from_differ xs (λ v w lt below. d (suc v) (suc w) (omega arith) (omega arith)),
)
