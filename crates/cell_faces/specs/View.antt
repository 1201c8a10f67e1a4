-- The tables of cells.
use Rattle.std.specs.Prelude.{◌≡◌, List, [], ◌∷◌, ◌++◌, ℕ, map, length}
use Rattle.std.specs.List.{range_with_len}
use Rattle.cell_library.specs.declared.types.Cell.{Cell}
use Rattle.cell_library.specs.declared.types.Pin.{Pin}
use Rattle.cell_library.specs.Found.{raw_name}
use Rattle.form_bits.specs.declared.types.Spot.{Spot}
use Rattle.form_bits.specs.declared.types.Scope.{Scope}
use Rattle.cell_faces.specs.Cells.{pin_spot}
use Rattle.cell_faces.specs.declared.table.Cells.{Cells}

-- names with their spots
abbrev pub Face : Type 0
Face = List (List ℕ) × List Spot

abbrev pub face_view : Scope → Face
face_view s = (s.names, s.spots)

abbrev pub raw_pin_name : Pin → List ℕ
raw_pin_name p = p.name

-- the pins of a cell by their names
abbrev pub raw_face : Cell → Face
raw_face c = (map raw_pin_name c.pins, map pin_spot (range_with_len 0 (length c.pins)))

-- the names and faces of cells
pub record Tables (cells : List Cell) (t : Cells) : Type 0 where
  pub names : t.names ≡ map raw_name cells
  pub faces : map face_view t.faces ≡ map raw_face cells
