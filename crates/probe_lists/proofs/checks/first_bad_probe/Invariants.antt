use Rattle.std.proofs.Common.{◌≡◌, drop, map}
use Rattle.std.specs.List.{enumerate_from}
use Rattle.probe_lists.specs.Asked.{first_bad_probe, first_of, probe_fault}
use Rattle.probe_lists.proofs.checks.first_bad_probe.Given as goal

abbrev pub invariant-loop-place : goal.invariant-loop-place
invariant-loop-place l = first_of (map (probe_fault l.wires) (enumerate_from l.place (drop l.place l.probes))) ≡ first_bad_probe l.wires l.probes
