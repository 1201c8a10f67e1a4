use Rattle.std.proofs.Common.{◌≡◌, [], map, take, drop}
use Rattle.verilog_reader.specs.View.{pin_view}
use Rattle.form_bits.specs.Forms.{look_in}
use Rattle.bound_items.specs.Items.{pins_broken, pin_of}
use Rattle.bound_items.proofs.connect.check_pins.Given as goal

abbrev pub invariant-loop-connection : goal.invariant-loop-connection
invariant-loop-connection l =
    (pins_broken l.instance (look_in l.face.names l.face.spots) (look_in l.scope.names l.scope.spots) l.earlier (map pin_view (drop l.connection-index l.pins))
    ≡ pins_broken l.instance (look_in l.face.names l.face.spots) (look_in l.scope.names l.scope.spots) [] (map pin_view l.pins))
    × (l.earlier ≡ map pin_of (map pin_view (take l.connection-index l.pins)))
