use Rattle.std.proofs.Common.{◌≡◌, ◌++◌, map, take}
use Rattle.cell_faces.specs.View.{face_view, raw_face}
use Rattle.cell_faces.proofs.face.add_faces.Given as goal

abbrev pub invariant-loop-cell : goal.invariant-loop-cell
invariant-loop-cell l = map face_view l.faces ≡ map face_view l.initial.faces ++ map raw_face (take l.cell-index l.cells)
