use Rattle.std.proofs.Common.{◌≡◌, ◌++◌, take}
use Rattle.probe_cones.specs.Observing.{seen_in}
use Rattle.probe_cones.proofs.observation.add_cones.Given as goal

abbrev pub invariant-loop-cone : goal.invariant-loop-cone
invariant-loop-cone l = l.row ≡ l.initial.row ++ seen_in (take l.cone-index l.cones) l.bits
