use Rattle.std.proofs.Common.{◌≡◌, ◌++◌, replicate}
use Rattle.probe_cones.proofs.joining.add_times.Given as goal

abbrev pub invariant-loop-added : goal.invariant-loop-added
invariant-loop-added l = l.flags ≡ l.initial.flags ++ replicate l._added l.flag
