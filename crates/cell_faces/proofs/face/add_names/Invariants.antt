use Rattle.std.proofs.Common.{◌≡◌, ◌++◌, map, take}
use Rattle.cell_library.specs.Found.{raw_name}
use Rattle.cell_faces.proofs.face.add_names.Given as goal

abbrev pub invariant-loop-cell : goal.invariant-loop-cell
invariant-loop-cell l = l.table ≡ l.initial.table ++ map raw_name (take l.cell-index l.cells)
