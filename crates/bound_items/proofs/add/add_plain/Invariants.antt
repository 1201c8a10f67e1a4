use Rattle.std.proofs.Common.{◌≡◌, drop}
use Rattle.bound_items.specs.Items.{plain_lines}
use Rattle.bound_items.specs.State.{state_of, after}
use Rattle.bound_items.proofs.add.add_plain.Given as goal

abbrev pub invariant-loop-i : goal.invariant-loop-i
invariant-loop-i l = after (state_of l.netlist) (plain_lines (drop l.i l.targets) (drop l.i l.values)) ≡ after (state_of l.initial.netlist) (plain_lines l.targets l.values)
