-- What a walk goes over, as it is kept.
use Rattle.std.specs.Prelude.{◌≡◌, ℕ, List, Some, map, slice_get}
use Rattle.cell_library.specs.Spelled.{cell_of}
use Rattle.cell_library.specs.declared.types.Cell.{Cell}
use Rattle.cell_faces.specs.View.{Tables}
use Rattle.cell_faces.specs.declared.table.Cells.{Cells}
use Rattle.verilog_reader.specs.View.{module_view}
use Rattle.verilog_reader.specs.declared.design.Module.{Module}
use Rattle.module_outlines.specs.View.{Outlines}
use Rattle.module_outlines.specs.declared.outline.Outline.{Outline}
use Rattle.net_binding.specs.Walk.{Parts, module_name}

abbrev pub plain_parts : List Module → List Cell → Parts
plain_parts modules cells = record { cells = map cell_of cells; modules = map module_view modules }

-- each of these modules has its outline
abbrev pub AreOutlines : List Module → List Outline → Type 0
AreOutlines modules outlines = (k : ℕ) (m : Module) (o : Outline) → slice_get modules k ≡ Some m → slice_get outlines k ≡ Some o → Outlines (module_view m) o

-- the names and outlines of modules, and the tables of cells
pub record Ready (modules : List Module) (numbers : List (List ℕ)) (outlines : List Outline) (cells : List Cell) (tables : Cells) : Type 0 where
  pub numbers_are : numbers ≡ map module_name (map module_view modules)
  pub outlines_are : AreOutlines modules outlines
  pub tables_are : Tables cells tables
