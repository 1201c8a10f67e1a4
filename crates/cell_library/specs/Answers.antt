-- What reading a library answers.
use Rattle.std.specs.Prelude.{◌≡◌, ◌≤◌, ℕ, List, [], Some, None, Result, Ok, Err, map, length}
use Rattle.cell_library.specs.Texts.{Text}
use Rattle.cell_library.specs.Judged.{PlainCell}
use Rattle.cell_library.specs.Spelled.{Spelled, cell_of, cell_name, first_fault}
use Rattle.cell_library.specs.declared.types.Cell.{Cell}
use Rattle.cell_library.specs.declared.library.Library.{Library}
use Rattle.cell_library.specs.declared.read.LibraryFault.{LibraryFault}
use Rattle.cell_library.specs.declared.read.LibraryFault.TheVariants as faults

-- Ok with the cells where no name is wrong, and else the first cell whose name is.
abbrev pub IfNamed : List Text → List Cell → Result Library LibraryFault → Type 0
IfNamed names cells (Ok l) = (l.cells ≡ cells) × (first_fault [] names ≡ None)
IfNamed names cells (Err (faults.Cell name cause)) = first_fault [] names ≡ Some (name, cause)
IfNamed names cells (Err (faults.Syntax at)) = ⊥
IfNamed names cells (Err faults.Memory) = Unit {0}

-- Ok where the bytes spell cells whose names are right, with these cells. `Cell` where they spell cells, with the first whose name is wrong. `Syntax` where they spell nothing.
abbrev pub Reads : List ℕ → Result Library LibraryFault → Type 0
Reads bytes (Ok l) = Spelled bytes (map cell_of l.cells) × (first_fault [] (map cell_name (map cell_of l.cells)) ≡ None)
Reads bytes (Err (faults.Cell name cause)) = (cells : List PlainCell) × Spelled bytes cells × (first_fault [] (map cell_name cells) ≡ Some (name, cause))
Reads bytes (Err (faults.Syntax at)) = ((cells : List PlainCell) → Spelled bytes cells → ⊥) × (at ≤ length bytes)
Reads bytes (Err faults.Memory) = Unit {0}
