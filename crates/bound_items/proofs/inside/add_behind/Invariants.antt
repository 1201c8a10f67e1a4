use Rattle.std.proofs.Common.{◌≡◌, map, drop}
use Rattle.std.specs.List.{flat_map}
use Rattle.verilog_reader.specs.View.{pin_view, module_view}
use Rattle.form_bits.specs.Forms.{look_in}
use Rattle.bound_items.specs.Items.{out_lines}
use Rattle.bound_items.specs.State.{state_of, after}
use Rattle.bound_items.proofs.inside.add_behind.Given as goal

abbrev pub invariant-loop-connection : goal.invariant-loop-connection
invariant-loop-connection l =
    after (state_of l.netlist) (flat_map (out_lines (module_view l.inside.module.now) l.n (look_in l.wires.scope.now.names l.wires.scope.now.spots) l.wires.base) (map pin_view (drop l.connection-index l.wires.pins.now)))
    ≡ after (state_of l.initial.netlist) (flat_map (out_lines (module_view l.inside.module.now) l.n (look_in l.wires.scope.now.names l.wires.scope.now.spots) l.wires.base) (map pin_view l.wires.pins.now))
