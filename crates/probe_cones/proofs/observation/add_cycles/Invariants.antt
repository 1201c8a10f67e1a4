use Rattle.std.proofs.Common.{◌≡◌, ◌++◌, take}
use Rattle.std.specs.List.{flat_map}
use Rattle.probe_cones.specs.Observing.{seen_in}
use Rattle.probe_cones.proofs.observation.add_cycles.Given as goal

abbrev pub invariant-loop-bits : goal.invariant-loop-bits
invariant-loop-bits l = l.row ≡ l.initial.row ++ flat_map (seen_in l.cones) (take l.bits-index l.table)
