use Rattle.std.proofs.Common.{◌≡◌, map, take}
use Rattle.cell_faces.specs.View.{raw_pin_name}
use Rattle.cell_faces.proofs.face.pin_table.Given as goal

abbrev pub invariant-loop-pin : goal.invariant-loop-pin
invariant-loop-pin l = l.table ≡ map raw_pin_name (take l.pin-index l.pins)
