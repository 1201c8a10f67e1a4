use Rattle.std.proofs.Common.{◌≡◌, [], ◌∷◌, map, take}
use Rattle.cell_library.specs.Spelled.{pin_of}
use Rattle.cell_faces.specs.Cells.{in_pin}
use Rattle.cell_faces.proofs.known.inputs.Given as goal

abbrev pub invariant-loop-name : goal.invariant-loop-name
invariant-loop-name l = map pin_of l.pins ≡ map (λ b. in_pin (b ∷ [])) (take l.name-index l.names)
