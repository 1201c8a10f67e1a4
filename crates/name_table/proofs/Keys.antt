-- Look-ups among keys that are `Vec`s of bytes, as look-ups among the names that they hold.
use Rattle.std.proofs.Common.{◌≡◌, ◌≢◌, ℕ, zero, suc, Bool, List, [], ◌∷◌, Vec, Global, map, cond, true, false, Some, None, length, refl, sym, ◌<◌, arith}
use Rattle.std.specs.Prelude.{position, nat_lt, slice_get}
use Rattle.std.specs.List.{list_any, position_or_len, AllByRecursion, IsDistinct}
use Rattle.std.specs.Str.{bytes_eq}
use Rattle.std.specs.Cmp.Lexicographic.{nat_list_eq_equiv, bytes_decides}
use Rattle.std.proofs.lemmas.Bool.{cases_Bool, both_ways, ltb-true}
use mathlib.Core.Logic.{⊎_elim}

module _ {X Y : Type 0} (f : X → Y) (p : X → Bool) (q : Y → Bool) (same : (x : X) → p x ≡ q (f x)) where
  -- a test of values passes as often as the same test of what is seen of them
  any_of_map : (xs : List X) → list_any p xs ≡ list_any q (map f xs)
  any_of_map [] = refl
  any_of_map (x ∷ xs) = let now = same x in let rest = any_of_map xs in cc

  place_of_map : (xs : List X) → position_or_len p xs ≡ position_or_len q (map f xs)
  place_of_map [] = refl
  place_of_map (x ∷ xs) = let now = same x in let rest = place_of_map xs in cc

  length_of_map : (xs : List X) → length xs ≡ length (map f xs)
  length_of_map [] = refl
  length_of_map (x ∷ xs) = let rest = length_of_map xs in cc

  position_of_map : (xs : List X) → position p xs ≡ position q (map f xs)
  position_of_map xs = let place = place_of_map xs in let long = length_of_map xs in cc

-- the names of keys
abbrev pub names_of : List (Vec ℕ Global) → List (List ℕ)
names_of keys = map (λ k. k.items) keys

pub any_key : (name : List ℕ) (keys : List (Vec ℕ Global)) → list_any (λ k. bytes_eq name k.items) keys ≡ list_any (λ n. bytes_eq n name) (names_of keys)
any_key name = any_of_map _ _ _ (λ k. nat_list_eq_equiv.symm name k.items)

pub place_of_key : (name : List ℕ) (keys : List (Vec ℕ Global)) → position_or_len (λ k. bytes_eq name k.items) keys ≡ position_or_len (λ n. bytes_eq n name) (names_of keys)
place_of_key name = place_of_map _ _ _ (λ k. nat_list_eq_equiv.symm name k.items)

pub position_of_key : (name : List ℕ) (keys : List (Vec ℕ Global)) → position (λ k. bytes_eq name k.items) keys ≡ position (λ n. bytes_eq n name) (names_of keys)
position_of_key name = position_of_map _ _ _ (λ k. nat_list_eq_equiv.symm name k.items)

module _ {X : Type 0} (p : X → Bool) where
  -- an item passes where the first place is within the list
  there_within : (xs : List X) → position_or_len p xs < length xs → list_any p xs ≡ true
  there_within [] within = absurd (omega arith)
  there_within (x ∷ xs) within =
      ⊎_elim
      (λ yes. rw yes refl)
      (λ no. let shorter = rw no at within in rw no (there_within xs (omega arith)))
      (cases_Bool (p x))

  within_of_Some : (n long i : ℕ) → cond (nat_lt n long) (Some n) None ≡ Some i → n < long
  within_of_Some n long i found =
      ⊎_elim
      (λ yes. ltb-true n long yes)
      (λ no. absurd (let none : None ≡ Some i = rw no at found in cc))
      (cases_Bool (nat_lt n long))

  -- an item passes where one has a place
  pub any_of_Some : (xs : List X) (i : ℕ) → position p xs ≡ Some i → list_any p xs ≡ true
  any_of_Some xs i found = there_within xs (within_of_Some _ _ i found)

abbrev pub same_key : Vec ℕ Global → Vec ℕ Global → Bool
same_key k l = bytes_eq k.items l.items

-- no name behind a key is the key's, where none of those keys is equal to it
other_behind : (k : Vec ℕ Global) (keys : List (Vec ℕ Global)) → AllByRecursion (λ l. same_key k l ≡ false) keys → (w : ℕ) → slice_get (names_of keys) w ≢ Some k.items
other_behind k [] other w found = absurd (cc)
other_behind k (l ∷ ls) other zero found =
    let e : k.items ≡ l.items = cc in
    absurd (both_ways (same_key k l) other.0 ((bytes_decides k.items l.items).1 e))
other_behind k (l ∷ ls) other (suc w) found = other_behind k ls other.1 w found

-- the names of different keys differ
pub names_differ : (keys : List (Vec ℕ Global)) → IsDistinct same_key keys → (v w : ℕ) → v < w → w < length (names_of keys) → slice_get (names_of keys) v ≢ slice_get (names_of keys) w
unfolding IsDistinct
names_differ [] distinct v w before within same = absurd (omega arith)
names_differ (k ∷ ks) distinct zero zero before within same = absurd (omega arith)
names_differ (k ∷ ks) distinct zero (suc w) before within same = other_behind k ks distinct.0 w (sym same)
names_differ (k ∷ ks) distinct (suc v) zero before within same = absurd (omega arith)
names_differ (k ∷ ks) distinct (suc v) (suc w) before within same = names_differ ks distinct.1 v w (omega arith) (omega arith) same
