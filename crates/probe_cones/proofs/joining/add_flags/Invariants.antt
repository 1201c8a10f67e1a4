use Rattle.std.proofs.Common.{◌≡◌, ◌++◌, take}
use Rattle.probe_cones.specs.Observing as spec
use Rattle.probe_cones.proofs.joining.add_flags.Given as goal

abbrev pub invariant-loop-port : goal.invariant-loop-port
invariant-loop-port l = l.flags ≡ l.initial.flags ++ spec.flags_of (take l.port-index l.ports)
