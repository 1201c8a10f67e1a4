use Rattle.bound_items.specs.State.{state_of}
use Rattle.bound_items.proofs.add.add_at.Goals as goal
use Rattle.bound_items.proofs.Steps.{lines_end}

pub returns-else-i-values : goal.returns-else-i-values
returns-else-i-values c = lines_end (state_of c.args.netlist) c.args.targets.now c.args.values.now c.args.i c.if-i-values.false
