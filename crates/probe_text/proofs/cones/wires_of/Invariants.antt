use Rattle.std.proofs.Common.{◌≡◌, map, take}
use Rattle.probe_text.proofs.cones.wires_of.Given as goal

abbrev pub invariant-loop-probe : goal.invariant-loop-probe
invariant-loop-probe l = l.wires ≡ map (λ p. p.wire) (take l.probe-index l.probes)
