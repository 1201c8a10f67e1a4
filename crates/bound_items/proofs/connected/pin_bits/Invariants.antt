use Rattle.std.proofs.Common.{◌≡◌, map, take}
use Rattle.verilog_reader.specs.View.{pin_view}
use Rattle.cell_library.specs.Spelled.{pin_of}
use Rattle.form_bits.specs.Forms.{look_in}
use Rattle.bound_items.specs.Items.{first_bit, connected}
use Rattle.bound_items.proofs.connected.pin_bits.Given as goal

abbrev pub invariant-loop-pin : goal.invariant-loop-pin
invariant-loop-pin l = l.bits ≡ map (λ p. first_bit (connected (map pin_view l.wires.pins.now) (look_in l.wires.scope.now.names l.wires.scope.now.spots) l.wires.base p.name)) (map pin_of (take l.pin-index l.pins))
