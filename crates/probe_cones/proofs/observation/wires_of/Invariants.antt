use Rattle.std.proofs.Common.{◌≡◌, map, take}
use Rattle.probe_cones.proofs.observation.wires_of.Given as goal

abbrev pub invariant-loop-probe : goal.invariant-loop-probe
invariant-loop-probe l = l.wires ≡ map (λ p. p.wire) (take l.probe-index l.probes)
