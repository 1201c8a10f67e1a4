use Rattle.std.proofs.Common.{◌≡◌, ◌++◌, drop}
use Rattle.probe_cones.specs.Observing.{probed}
use Rattle.probe_cones.proofs.observation.add_probes.Given as goal

abbrev pub invariant-loop-k : goal.invariant-loop-k
invariant-loop-k l = l.row ++ probed l.table (drop l.k l.cones) (drop l.k l.probes) ≡ l.initial.row ++ probed l.table l.cones l.probes
