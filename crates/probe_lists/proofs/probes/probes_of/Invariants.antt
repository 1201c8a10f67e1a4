use Rattle.std.proofs.Common.{◌≡◌, take, map}
use Rattle.probe_lists.specs.Answer.{probe_of}
use Rattle.probe_lists.proofs.probes.probes_of.Given as goal

abbrev pub invariant-loop-probe : goal.invariant-loop-probe
invariant-loop-probe l = l.probes ≡ map (probe_of l.wires) (take l.probe-index l.probe-items)
