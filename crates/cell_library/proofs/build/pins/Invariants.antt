use Rattle.std.proofs.Common.{◌≡◌, take, map}
use Rattle.cell_library.specs.Judged as spec
use Rattle.cell_library.specs.Known.{look_in}
use Rattle.cell_library.specs.Spelled.{pin_of}
use Rattle.cell_library.specs.View as view
use Rattle.cell_library.proofs.build.pins.Given as goal

abbrev pub invariant-loop-next : goal.invariant-loop-next
invariant-loop-next l = map pin_of l.pins ≡ map (spec.plain_pin (look_in l.scope.pins.now l.scope.states.now)) (map view.raw_pin (take l.next-index l.raw))
