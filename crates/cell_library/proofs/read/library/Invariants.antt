use Rattle.std.proofs.Common.{◌≡◌, [], take, drop, map}
use Rattle.cell_library.specs.Found.{raw_name}
use Rattle.cell_library.specs.Spelled.{first_fault}
use Rattle.cell_library.proofs.read.library.Given as goal

abbrev pub invariant-loop-cell : goal.invariant-loop-cell
invariant-loop-cell l = (first_fault l.names (map raw_name (drop l.cell-index l.cell-items)) ≡ first_fault [] (map raw_name l.cell-items)) × (l.names ≡ map raw_name (take l.cell-index l.cell-items))
