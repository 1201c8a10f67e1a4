use Rattle.std.proofs.Common.{map, ◌∙◌}
use Rattle.verilog_reader.specs.View.{pin_view, module_view}
use Rattle.form_bits.specs.Forms.{look_in}
use Rattle.bound_items.specs.State.{state_of}
use Rattle.bound_items.proofs.inside.add_ports.Goals as goal
use Rattle.bound_items.proofs.Instances.{ports_on}

pub loop-k-preserved : goal.loop-k-preserved
loop-k-preserved c =
    ports_on c.args.instance.now (module_view c.args.inside.module.now) (look_in c.args.wires.scope.now.names c.args.wires.scope.now.spots) c.args.wires.base (map pin_view c.args.wires.pins.now)
    (state_of c.loop-k.netlist) (state_of c.in_ok-netlist.netlist) _ c.as_slice-ways.result.now c.as_slice-ports.result.now c.loop-k.k c.index-ports-k.result c.way_at-way.result
    (c.as_slice-ways.ensures ∙ c.requires.outlined.ways) c.as_slice-ports.ensures c.index-ports-k.is c.loop-k-test.true c.way_at-way.ensures c.loop-k.invariant c.in_ok-netlist.ensures
