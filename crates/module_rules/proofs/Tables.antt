-- What a table tells of a name.
use Rattle.std.proofs.Common.{◌≡◌, ◌≤◌, ◌<◌, ◌+◌, ℕ, zero, suc, Bool, true, false, not, ◌||◌, cond, List, [], ◌∷◌, length, position, slice_get, map, Option, Some, None, is_some, nat_lt, refl, sym, ap, ◌∙◌, inl, inr, arith}
use Rattle.std.specs.List.{position_or_len}
use Rattle.std.specs.Option.{option_map}
use Rattle.std.specs.Str.{bytes_eq}
use Rattle.std.proofs.lemmas.Bool.{cases_Bool, or_parts, lt-ltb, le-ltb}
use Rattle.cell_library.specs.Found.{cell_by, cell_at, raw_name}
use Rattle.cell_library.specs.declared.types.Cell.{Cell}
use Rattle.module_rules.specs.Items.{Text, is_among}

abbrev place : List Text → Text → ℕ
place xs n = position_or_len (λ m. bytes_eq m n) xs

place_here : (x : Text) (xs : List Text) (n : Text) → bytes_eq x n ≡ true → place (x ∷ xs) n ≡ 0
place_here x xs n e = ap (λ b. cond (not b) (1 + place xs n) 0) e

place_later : (x : Text) (xs : List Text) (n : Text) → bytes_eq x n ≡ false → place (x ∷ xs) n ≡ 1 + place xs n
place_later x xs n e = ap (λ b. cond (not b) (1 + place xs n) 0) e

-- a name that is there stands below the count, and another at it
place_within : (xs : List Text) (n : Text) → is_among xs n ≡ true → place xs n < length xs
place_within [] n h = absurd (let no : false ≡ true = h in cc)
place_within (x ∷ xs) n h =
    elim (cases_Bool (bytes_eq x n)) [
      | inl e ↦ let k = place_here x xs n e in omega arith
      | inr e ↦ let k = place_later x xs n e in let rest = place_within xs n (sym (ap (λ b. b || is_among xs n) e) ∙ h) in omega arith
    ]

place_past : (xs : List Text) (n : Text) → is_among xs n ≡ false → length xs ≤ place xs n
place_past [] n h = omega arith
place_past (x ∷ xs) n h =
    let o = or_parts (bytes_eq x n) (is_among xs n) h in
    let rest = place_past xs n o.1 in
    let k = place_later x xs n o.0 in omega arith

-- a name is found where it is one of the table's
pub found_tells : (xs : List Text) (n : Text) → is_some (position (λ m. bytes_eq m n) xs) ≡ is_among xs n
found_tells xs n =
    elim (cases_Bool (is_among xs n)) [
      | inl e ↦ ap (λ b. is_some (cond b (Some (place xs n)) None)) (lt-ltb (place xs n) (length xs) (place_within xs n e)) ∙ sym e
      | inr e ↦ ap (λ b. is_some (cond b (Some (place xs n)) None)) (le-ltb (place xs n) (length xs) (place_past xs n e)) ∙ sym e
    ]

-- and so is a cell of a library
within_is_some : {X : Type 0} (xs : List X) (k : ℕ) → k < length xs → is_some (slice_get xs k) ≡ true
within_is_some [] k h = absurd (omega arith)
within_is_some (x ∷ xs) zero h = refl
within_is_some (x ∷ xs) (suc k) h = within_is_some xs k (omega arith)

names_length : (cells : List Cell) → length (map raw_name cells) ≡ length cells
names_length [] = refl
names_length (c ∷ cs) = ap suc (names_length cs)

pub cell_tells : (cells : List Cell) (n : Text) → is_some (cell_by cells n) ≡ is_among (map raw_name cells) n
cell_tells cells n =
    let names : List Text = map raw_name cells in
    elim (cases_Bool (is_among names n)) [
      | inl e ↦ let within = place_within names n e in let long = names_length cells in
          ap (λ b. is_some (cell_at cells (cond b (Some (place names n)) None))) (lt-ltb (place names n) (length names) within) ∙ within_is_some cells (place names n) (omega arith) ∙ sym e
      | inr e ↦ ap (λ b. is_some (cell_at cells (cond b (Some (place names n)) None))) (le-ltb (place names n) (length names) (place_past names n e)) ∙ sym e
    ]

pub some_in_map : {X Y : Type 0} (f : X → Y) (o : Option X) → is_some (option_map f o) ≡ is_some o
some_in_map f None = refl
some_in_map f (Some x) = refl
