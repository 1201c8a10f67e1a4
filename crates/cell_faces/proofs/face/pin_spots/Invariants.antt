use Rattle.std.proofs.Common.{◌≡◌, map}
use Rattle.std.specs.List.{range_with_len}
use Rattle.cell_faces.specs.Cells.{pin_spot}
use Rattle.cell_faces.proofs.face.pin_spots.Given as goal

abbrev pub invariant-loop-first : goal.invariant-loop-first
invariant-loop-first l = l.spots ≡ map pin_spot (range_with_len 0 l.first)
