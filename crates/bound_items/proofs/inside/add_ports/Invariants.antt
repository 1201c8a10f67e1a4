use Rattle.std.proofs.Common.{◌≡◌, map, drop}
use Rattle.std.specs.List.{flat_map}
use Rattle.verilog_reader.specs.View.{pin_view, module_view}
use Rattle.form_bits.specs.Forms.{look_in}
use Rattle.bound_items.specs.Items.{port_counts}
use Rattle.bound_items.specs.State.{state_of, after}
use Rattle.bound_items.proofs.inside.add_ports.Given as goal

abbrev pub invariant-loop-k : goal.invariant-loop-k
invariant-loop-k l =
    after (state_of l.netlist) (flat_map (port_counts l.instance (module_view l.inside.module.now) (look_in l.wires.scope.now.names l.wires.scope.now.spots) l.wires.base (map pin_view l.wires.pins.now)) (drop l.k l.inside.module.now.ports))
    ≡ after (state_of l.initial.netlist) (flat_map (port_counts l.instance (module_view l.inside.module.now) (look_in l.wires.scope.now.names l.wires.scope.now.spots) l.wires.base (map pin_view l.wires.pins.now)) l.inside.module.now.ports)
