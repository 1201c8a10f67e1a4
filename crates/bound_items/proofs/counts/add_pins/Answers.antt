use Rattle.cell_library.specs.Spelled.{cell_of, pin_of}
use Rattle.bound_items.specs.State.{state_of}
use Rattle.bound_items.proofs.counts.add_pins.Goals as goal
use Rattle.bound_items.proofs.Steps.{counts_on}

pub loop-k-preserved : goal.loop-k-preserved
loop-k-preserved c =
    counts_on c.args.site.instance.now (cell_of c.args.site.cell.now) c.args.site.bits.now c.args.site.state pin_of (state_of c.loop-k.netlist) (state_of c.in_ok-netlist.netlist) _
    c.as_slice-pins.result.now c.loop-k.k c.index-pins-k.result c.index-pins-k.is c.loop-k-test.true c.loop-k.invariant c.in_ok-netlist.ensures
