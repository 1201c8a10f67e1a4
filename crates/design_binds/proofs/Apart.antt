-- Facts on each item of a list, and names that differ.
use Rattle.std.proofs.Common.{◌≡◌, ◌≢◌, ℕ, zero, suc, ◌+◌, ◌<◌, List, [], ◌∷◌, ◌++◌, Bool, true, false, length, filter, Some, get_or, slice_get, refl, ap, ◌∙◌, sym, arith}
use Rattle.std.specs.List.{AllByRecursion}
use Rattle.std.specs.Str.{bytes_eq}
use Rattle.std.proofs.Math.Bool.{or-true}
use Rattle.std.proofs.lemmas.Slice.Eq.{bytes_eq-Decides}
use Rattle.std.proofs.lemmas.Option.{slice_get-get_or, slice_get_within}
use Rattle.agm_net.specs.WellFormed.{Differ}
use Rattle.module_rules.specs.Items.{is_among}

-- a fact of each item of two lists joined, and of either part
pub all_append : {X : Type 0} (P : X → Type 0) (xs ys : List X) → AllByRecursion P xs → AllByRecursion P ys → AllByRecursion P (xs ++ ys)
all_append P [] ys f g = g
all_append P (x ∷ xs) ys f g = (f.0, all_append P xs ys f.1 g)

pub all_front : {X : Type 0} (P : X → Type 0) (xs ys : List X) → AllByRecursion P (xs ++ ys) → AllByRecursion P xs
all_front P [] ys h = tt
all_front P (x ∷ xs) ys h = (h.0, all_front P xs ys h.1)

pub all_back : {X : Type 0} (P : X → Type 0) (xs ys : List X) → AllByRecursion P (xs ++ ys) → AllByRecursion P ys
all_back P [] ys h = h
all_back P (x ∷ xs) ys h = all_back P xs ys h.1

-- two facts of each item give a third
pub all_both : {X : Type 0} (P Q R : X → Type 0) → ((x : X) → P x → Q x → R x) → (xs : List X) → AllByRecursion P xs → AllByRecursion Q xs → AllByRecursion R xs
all_both P Q R f [] p q = tt
all_both P Q R f (x ∷ xs) p q = (f x p.0 q.0, all_both P Q R f xs p.1 q.1)

-- a fact of each item gives another
pub all_from : {X : Type 0} (P Q : X → Type 0) → ((x : X) → P x → Q x) → (xs : List X) → AllByRecursion P xs → AllByRecursion Q xs
all_from P Q f [] p = tt
all_from P Q f (x ∷ xs) p = (f x p.0, all_from P Q f xs p.1)

-- a fact of every value
pub all_every : {X : Type 0} (P : X → Type 0) → ((x : X) → P x) → (xs : List X) → AllByRecursion P xs
all_every P f [] = tt
all_every P f (x ∷ xs) = (f x, all_every P f xs)

-- a fact of the item at each place is one of each item
pub all_by_place : {X : Type 0} (P : X → Type 0) (xs : List X) → ((k : ℕ) (x : X) → slice_get xs k ≡ Some x → P x) → AllByRecursion P xs
all_by_place P [] f = tt
all_by_place P (x ∷ xs) f = (f 0 x refl, all_by_place P xs (λ k y e. f (suc k) y e))

-- a fact of each item is one of the item at a place
pub all_at : {X : Type 0} (P : X → Type 0) (xs : List X) (k : ℕ) (d : X) → AllByRecursion P xs → k < length xs → P (get_or xs k d)
all_at P [] k d h lt = absurd (omega arith)
all_at P (x ∷ xs) zero d h lt = h.0
all_at P (x ∷ xs) (suc k) d h lt = all_at P xs k d h.1 (omega arith)

-- a place one further on
pub one_more : (m n : ℕ) → m ≡ n → 1 + m ≡ suc n
one_more m n e = omega arith

-- the test for equal bytes
pub bytes_same : (n : List ℕ) → bytes_eq n n ≡ true
bytes_same n = (bytes_eq-Decides n n).1 refl

pub bytes_differ : (m n : List ℕ) → m ≢ n → bytes_eq m n ≡ false
bytes_differ m n h =
    elim (bytes_eq m n) as (λ b. ((b ≡ true) → m ≡ n) → b ≡ false) [ true ↦ λ f. absurd (h (f refl)) | false ↦ λ f. refl ] (bytes_eq-Decides m n).0

-- no name is a later one
abbrev pub Apart : List (List ℕ) → Type 0
Apart [] = Unit {0}
Apart (n ∷ ns) = AllByRecursion (λ m. n ≢ m) ns × Apart ns

-- names differ by their places exactly where none is a later one
pub apart_from_Differ : (ns : List (List ℕ)) → Differ ns → Apart ns
apart_from_Differ [] d = tt
apart_from_Differ (n ∷ ns) d = (
  all_by_place (λ m. n ≢ m) ns (λ k m e same. let inside = slice_get_within ns k m e in d 0 (suc k) (omega arith) (omega arith) (ap Some same ∙ sym e)),
  apart_from_Differ ns (λ v w lt le e. d (suc v) (suc w) (omega arith) (omega arith) e),
)

pub Differ-from_apart : (ns : List (List ℕ)) → Apart ns → Differ ns
Differ-from_apart [] a v w lt le e = absurd (omega arith)
Differ-from_apart (n ∷ ns) a v zero lt le e = absurd (omega arith)
Differ-from_apart (n ∷ ns) a zero (suc w) lt le e =
    let inside : w < length ns = omega arith in
    let there = slice_get-get_or ns w [] inside in
    all_at (λ m. n ≢ m) ns w [] a.0 inside (let f : Some n ≡ Some (get_or ns w []) = e ∙ there in cc)
Differ-from_apart (n ∷ ns) a (suc v) (suc w) lt le e = Differ-from_apart ns a.1 v w (omega arith) (omega arith) e

-- names of two lists differ where those of each do, and none of the first is one of the second
pub apart_append : (xs ys : List (List ℕ)) → Apart xs → Apart ys → AllByRecursion (λ x. AllByRecursion (λ y. x ≢ y) ys) xs → Apart (xs ++ ys)
apart_append [] ys a b h = b
apart_append (x ∷ xs) ys a b h = (all_append (λ m. x ≢ m) xs ys a.0 h.0, apart_append xs ys a.1 b h.1)

-- none of the second names is among the first
pub none_among : (xs ys : List (List ℕ)) → Apart (xs ++ ys) → AllByRecursion (λ y. is_among xs y ≡ false) ys
none_among [] ys a = all_every (λ y. false ≡ false) (λ y. refl) ys
none_among (x ∷ xs) ys a =
    all_both (λ y. x ≢ y) (λ y. is_among xs y ≡ false) (λ y. is_among (x ∷ xs) y ≡ false)
    (λ y ne no. rw (bytes_differ x y ne) no) ys (all_back (λ m. x ≢ m) xs ys a.0) (none_among xs ys a.1)

-- each name is among them
pub all_among : (ns : List (List ℕ)) → AllByRecursion (λ n. is_among ns n ≡ true) ns
all_among [] = tt
all_among (n ∷ ns) = (
  rw (bytes_same n),
  all_from (λ m. is_among ns m ≡ true) (λ m. is_among (n ∷ ns) m ≡ true) (λ m h. rw h (or-true (bytes_eq n m))) ns (all_among ns),
)

-- a filter that every item passes
pub filter_all : {X : Type 0} (test : X → Bool) (xs : List X) → AllByRecursion (λ x. test x ≡ true) xs → filter test xs ≡ xs
filter_all test [] h = refl
filter_all test (x ∷ xs) h = rw h.0 (ap (λ ys. x ∷ ys) (filter_all test xs h.1))
