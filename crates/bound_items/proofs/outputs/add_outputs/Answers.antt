use Rattle.verilog_reader.specs.View.{pin_view}
use Rattle.cell_library.specs.Spelled.{cell_of}
use Rattle.bound_items.specs.Items.{cell_lines}
use Rattle.bound_items.specs.State.{state_of}
use Rattle.bound_items.proofs.outputs.add_outputs.Goals as goal
use Rattle.bound_items.proofs.Steps.{flat_on}

pub loop-connection-preserved : goal.loop-connection-preserved
loop-connection-preserved c =
    flat_on (cell_lines (cell_of c.args.site.cell.now) c.args.site.bits.now c.args.operands.now) pin_view (state_of c.loop-connection.netlist) (state_of c.in_ok-netlist.netlist) _
    c.args.pins.now c.loop-connection.connection-index c.connection-item.result c.connection-item.is c.loop-connection-test.true c.loop-connection.invariant c.in_ok-netlist.ensures
