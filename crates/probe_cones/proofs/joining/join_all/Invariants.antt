use Rattle.std.proofs.Common.{◌≡◌}
use Rattle.probe_cones.specs.Observing.{joined_rows}
use Rattle.probe_cones.proofs.joining.join_all.Given as goal

abbrev pub invariant-loop-t : goal.invariant-loop-t
invariant-loop-t l = l.rows ≡ joined_rows l.flags l.inputs l.random l.t
