use Rattle.std.proofs.Common.{◌≡◌, map, take, slice_index}
use Rattle.agm_net.specs.Renumbered.{renumbered_port}
use Rattle.wire_drivers.proofs.keep.ports_of.Given as goal

abbrev pub invariant-loop-port : goal.invariant-loop-port
invariant-loop-port l = l.out ≡ map (renumbered_port (λ w. slice_index l.numbers w)) (take l.port-index l.ports)
