use Rattle.std.proofs.Common.{◌≡◌, take}
use Rattle.probe_cones.specs.Cone.{output_bits_in}
use Rattle.probe_cones.proofs.observation.output_bits_of.Given as goal

abbrev pub invariant-loop-k : goal.invariant-loop-k
invariant-loop-k l = l.bits ≡ output_bits_in l.index (take l.k l.net.ports)
