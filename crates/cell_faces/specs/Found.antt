-- A cell that is found by its name.
use Rattle.std.specs.Prelude.{◌≡◌, ℕ, List, map, length, Some}
use Rattle.std.specs.List.{range_with_len}
use Rattle.cell_library.specs.Judged.{PlainCell}
use Rattle.form_bits.specs.Forms.{Text}
use Rattle.form_bits.specs.declared.types.Scope.{Scope}
use Rattle.cell_faces.specs.Cells.{find_cell, pin_name, pin_spot}

-- the first cell of the name, with its pins by their names: each one bit, with its number
pub record IsFound (cells : List PlainCell) (name : Text) (c : PlainCell) (face : Scope) : Type 0 where
  pub found : find_cell cells name ≡ Some c
  pub pins : face.names ≡ map pin_name c.pins
  pub spots : face.spots ≡ map pin_spot (range_with_len 0 (length c.pins))
