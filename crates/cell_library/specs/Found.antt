-- The cell of a name in a library.
use Rattle.std.specs.Prelude.{ℕ, List, Option, Some, None, map, position, slice_get}
use Rattle.std.specs.Str.{bytes_eq}
use Rattle.cell_library.specs.Texts.{Text}
use Rattle.cell_library.specs.declared.types.Cell.{Cell}

abbrev pub raw_name : Cell → Text
raw_name c = c.name

abbrev pub cell_at : List Cell → Option ℕ → Option Cell
cell_at cells None = None
cell_at cells (Some k) = slice_get cells k

-- the first cell of a name, None where no cell has it
abbrev pub cell_by : List Cell → Text → Option Cell
cell_by cells name = cell_at cells (position (λ n. bytes_eq n name) (map raw_name cells))
