-- Whether an item of a list passes a test, and where.
use Rattle.std.proofs.Common.{◌≡◌, ◌<◌, ◌≤◌, Bool, true, false, List, [], ◌∷◌, None, length, refl, sym, ap, ◌∙◌, arith}
use Rattle.std.specs.Prelude.{position}
use Rattle.std.specs.Option.{is_some}
use Rattle.std.specs.List.{list_any, position_or_len}
use Rattle.std.proofs.lemmas.Bool.{cases_Bool, lt-ltb, le-ltb}
use mathlib.Core.Logic.{⊎_elim}

module _ {X : Type 0} (p : X → Bool) where
  place_within : (xs : List X) → list_any p xs ≡ true → position_or_len p xs < length xs
  place_within [] any = absurd (cc)
  place_within (x ∷ xs) any =
      ⊎_elim
      (λ yes. rw yes (omega arith))
      (λ no. let rest = place_within xs (rw no at any) in rw no (omega arith))
      (cases_Bool (p x))

  place_past : (xs : List X) → list_any p xs ≡ false → length xs ≤ position_or_len p xs
  place_past [] none = omega arith
  place_past (x ∷ xs) none =
      ⊎_elim
      (λ yes. absurd (let any = rw yes at none in cc))
      (λ no. let rest = place_past xs (rw no at none) in rw no (omega arith))
      (cases_Bool (p x))

  -- an item has a place exactly where one passes
  pub found_is_any : (xs : List X) → is_some (position p xs) ≡ list_any p xs
  found_is_any xs =
      ⊎_elim
      (λ yes. let within = place_within xs yes in rw (lt-ltb (position_or_len p xs) (length xs) within, yes) refl)
      (λ no. let past = place_past xs no in rw (le-ltb (position_or_len p xs) (length xs) past, no) refl)
      (cases_Bool (list_any p xs))

  pub not_any : (xs : List X) → position p xs ≡ None → list_any p xs ≡ false
  not_any xs none = sym (found_is_any xs) ∙ ap is_some none
