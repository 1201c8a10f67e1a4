-- Cells by their names and numbers.
use Rattle.std.proofs.Common.{◌≡◌, ◌<◌, ◌+◌, ℕ, zero, suc, List, [], ◌∷◌, ◌++◌, Option, Some, None, map, length, position, slice_get, refl, ap, sym, ◌∙◌, arith}
use Rattle.std.specs.List.{range_with_len}
use Rattle.std.specs.Option.{option_map}
use Rattle.std.specs.Str.{bytes_eq}
use Rattle.std.proofs.lemmas.List.FromFn.{map-range_with_len_more}
use Rattle.cell_library.specs.declared.types.Cell.{Cell}
use Rattle.cell_library.specs.declared.types.Pin.{Pin}
use Rattle.cell_library.specs.Found.{raw_name}
use Rattle.cell_library.specs.Spelled.{cell_of, pin_of}
use Rattle.form_bits.specs.declared.types.Spot.{Spot}
use Rattle.form_bits.specs.declared.types.Scope.{Scope}
use Rattle.cell_faces.specs.Cells as spec
use Rattle.cell_faces.specs.Found.{IsFound}
use Rattle.cell_faces.specs.View.{face_view, raw_face, raw_pin_name, Tables}
use Rattle.cell_faces.specs.declared.table.Cells.{Cells}

pub spots_on : (new old : List Spot) (k : ℕ) → old ≡ map spec.pin_spot (range_with_len 0 k) → new ≡ old ++ spec.pin_spot k ∷ [] → new ≡ map spec.pin_spot (range_with_len 0 (k + 1))
spots_on new old k was now =
    let more : map spec.pin_spot (range_with_len 0 (k + 1)) ≡ map spec.pin_spot (range_with_len 0 k) ++ spec.pin_spot k ∷ [] = map-range_with_len_more spec.pin_spot 0 k k (omega arith) in
    now ∙ (ap (λ (xs : List Spot). xs ++ spec.pin_spot k ∷ []) was ∙ sym more)

get_map : {X Y : Type 0} (f : X → Y) (xs : List X) (n : ℕ) → slice_get (map f xs) n ≡ option_map f (slice_get xs n)
get_map f [] n = refl
get_map f (x ∷ xs) zero = refl
get_map f (x ∷ xs) (suc n) = get_map f xs n

same_faces : (cells : List Cell) (t : Cells) (n : ℕ) → Tables cells t → option_map face_view (slice_get t.faces n) ≡ option_map raw_face (slice_get cells n)
same_faces cells t n h = sym (get_map face_view t.faces n) ∙ (ap (λ xs. slice_get xs n) h.faces ∙ get_map raw_face cells n)

some_same : {X : Type 0} (x y : X) → Some x ≡ Some y → x ≡ y
some_same x y e = cc

pub face_is : (cells : List Cell) (t : Cells) (n : ℕ) (c : Cell) (s : Scope) → Tables cells t → Some c ≡ slice_get cells n → Some s ≡ slice_get t.faces n → face_view s ≡ raw_face c
face_is cells t n c s h e f =
    some_same (face_view s) (raw_face c) (ap (λ o. option_map face_view o) f ∙ (same_faces cells t n h ∙ ap (λ o. option_map raw_face o) (sym e)))

none_some : {X : Type 0} (x : X) → None ≡ Some x → ⊥
none_some x e = cc

pub no_face : (cells : List Cell) (t : Cells) (n : ℕ) (c : Cell) → Tables cells t → Some c ≡ slice_get cells n → None ≡ slice_get t.faces n → ⊥
no_face cells t n c h e f = none_some (raw_face c) (ap (λ o. option_map face_view o) f ∙ (same_faces cells t n h ∙ ap (λ o. option_map raw_face o) (sym e)))

same_names : (cells : List Cell) → map spec.cell_name (map cell_of cells) ≡ map raw_name cells
same_names [] = refl
same_names (c ∷ cs) = ap (λ ns. raw_name c ∷ ns) (same_names cs)

pub find_is : (cells : List Cell) (t : Cells) (name : List ℕ) (o : Option ℕ) → Tables cells t → o ≡ position (λ n. bytes_eq n name) t.names
    → spec.find_cell (map cell_of cells) name ≡ spec.cell_at (map cell_of cells) o
find_is cells t name o h e =
    ap (λ ns. spec.cell_at (map cell_of cells) (position (λ n. bytes_eq n name) ns)) (same_names cells ∙ sym h.names) ∙ ap (λ p. spec.cell_at (map cell_of cells) p) (sym e)

pub number_is : (cells : List Cell) (n : ℕ) (c : Cell) → slice_get cells n ≡ Some c → slice_get (map cell_of cells) n ≡ Some (cell_of c)
number_is cells n c e = get_map cell_of cells n ∙ ap (λ o. option_map cell_of o) e

pub number_none : (cells : List Cell) (n : ℕ) → slice_get cells n ≡ None → slice_get (map cell_of cells) n ≡ None
number_none cells n e = get_map cell_of cells n ∙ ap (λ o. option_map cell_of o) e

same_pins : (pins : List Pin) → map spec.pin_name (map pin_of pins) ≡ map raw_pin_name pins
same_pins [] = refl
same_pins (p ∷ ps) = ap (λ ns. raw_pin_name p ∷ ns) (same_pins ps)

as_many : (pins : List Pin) → length (map pin_of pins) ≡ length pins
as_many [] = refl
as_many (p ∷ ps) = ap suc (as_many ps)

pub found_is : (cells : List Cell) (name : List ℕ) (c : Cell) (s : Scope) → spec.find_cell (map cell_of cells) name ≡ Some (cell_of c) → face_view s ≡ raw_face c → IsFound (map cell_of cells) name (cell_of c) s
found_is cells name c s f e = record {
  found = f;
  pins = ap (λ x. x.0) e ∙ sym (same_pins c.pins);
  spots = ap (λ x. x.1) e ∙ ap (λ n. map spec.pin_spot (range_with_len 0 n)) (sym (as_many c.pins));
}
