use Rattle.verilog_reader.specs.View.{pin_view, module_view}
use Rattle.form_bits.specs.Forms.{look_in}
use Rattle.bound_items.specs.Items.{out_lines}
use Rattle.bound_items.specs.State.{state_of}
use Rattle.bound_items.proofs.inside.add_behind.Goals as goal
use Rattle.bound_items.proofs.Instances.{loop_on}

pub loop-connection-preserved : goal.loop-connection-preserved
loop-connection-preserved c =
    loop_on (out_lines (module_view c.args.inside.module.now) c.args.n (look_in c.args.wires.scope.now.names c.args.wires.scope.now.spots) c.args.wires.base) pin_view
    (state_of c.loop-connection.netlist) (state_of c.in_ok-netlist.netlist) _ c.args.wires.pins.now c.loop-connection.connection-index c.connection-item.result c.connection-item.is c.loop-connection-test.true
    c.loop-connection.invariant c.in_ok-netlist.ensures
