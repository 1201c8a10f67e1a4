use Rattle.std.proofs.Common.{◌-◌}
use Rattle.agm_net.specs.View.{plain_of}
use Rattle.probe_cones.specs.Walk.{state, weight}
use Rattle.probe_cones.proofs.Walking.{IsAt}
use Rattle.probe_cones.proofs.walk.Walk.run.Given as goal

abbrev pub invariant-loop-next : goal.invariant-loop-next
invariant-loop-next l = IsAt (plain_of l.net) l.wire l.stamp l.next (state l.self)

abbrev pub decreases-loop-next : goal.decreases-loop-next
decreases-loop-next l = weight (state l.self) - l.next
