use Rattle.std.proofs.Common.{◌≡◌, ◌++◌, take, map}
use Rattle.cell_library.specs.Steps as spec
use Rattle.cell_library.specs.View as view
use Rattle.cell_library.proofs.cell.add_pins.Given as goal

abbrev pub invariant-loop-name : goal.invariant-loop-name
invariant-loop-name l = map view.raw_pin l.pins ≡ map view.raw_pin l.fn.pins ++ map (spec.read_named (view.pin_body l.body)) (take l.name-index l.names)
