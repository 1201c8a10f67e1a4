-- The first place at which a test passes.
use Rattle.std.proofs.Common.{◌≡◌, ◌≤◌, ◌<◌, ◌+◌, ℕ, suc, Bool, true, false, List, [], ◌∷◌, length, Option, Some, None, refl, sym, ap, ◌∙◌, inl, inr, arith}
use Rattle.std.specs.Prelude.{position}
use Rattle.std.specs.List.{AllByRecursion, position_or_len}
use Rattle.std.proofs.lemmas.Bool.{lt-ltb, le-ltb, cases_lt, cases_Bool}

pub next_yes : {X : Type 0} (p : X → Bool) (x : X) (xs : List X) → p x ≡ true → position_or_len p (x ∷ xs) ≡ 0
next_yes p x xs h = rw h refl

pub next_no : {X : Type 0} (p : X → Bool) (x : X) (xs : List X) → p x ≡ false → position_or_len p (x ∷ xs) ≡ suc (position_or_len p xs)
next_no p x xs h = let e : position_or_len p (x ∷ xs) ≡ 1 + position_or_len p xs = rw h refl in omega arith

at_place : {X : Type 0} (p : X → Bool) (xs : List X) (j : ℕ) → position_or_len p xs ≡ j → j < length xs → position p xs ≡ Some j
at_place p xs j e lt = rw (e, lt-ltb j (length xs) lt) refl

nowhere : {X : Type 0} (p : X → Bool) (xs : List X) (j : ℕ) → position_or_len p xs ≡ j → length xs ≤ j → position p xs ≡ None
nowhere p xs j e le = rw (e, le-ltb j (length xs) le) refl

-- a place behind one more item
abbrev pub shift : Option ℕ → Option ℕ
shift None = None
shift (Some k) = Some (suc k)

pub position_yes : {X : Type 0} (p : X → Bool) (x : X) (xs : List X) → p x ≡ true → position p (x ∷ xs) ≡ Some 0
position_yes p x xs h = at_place p (x ∷ xs) 0 (next_yes p x xs h) (omega arith)

pub position_no : {X : Type 0} (p : X → Bool) (x : X) (xs : List X) → p x ≡ false → position p (x ∷ xs) ≡ shift (position p xs)
position_no p x xs h =
    let e = next_no p x xs h in
    elim (cases_lt (position_or_len p xs) (length xs)) [
      | inl lt ↦ at_place p (x ∷ xs) (suc (position_or_len p xs)) e (omega arith) ∙ sym (ap shift (at_place p xs (position_or_len p xs) refl lt))
      | inr le ↦ nowhere p (x ∷ xs) (suc (position_or_len p xs)) e (omega arith) ∙ sym (ap shift (nowhere p xs (position_or_len p xs) refl le))
    ]

-- tests that answer alike have one first place
pub same_place : {X : Type 0} (p q : X → Bool) (xs : List X) → AllByRecursion (λ x. p x ≡ q x) xs → position p xs ≡ position q xs
same_place p q [] h = refl
same_place p q (x ∷ xs) h =
    elim (cases_Bool (p x)) [
      | inl e ↦ position_yes p x xs e ∙ sym (position_yes q x xs (sym h.0 ∙ e))
      | inr e ↦ position_no p x xs e ∙ (ap shift (same_place p q xs h.1) ∙ sym (position_no q x xs (sym h.0 ∙ e)))
    ]
