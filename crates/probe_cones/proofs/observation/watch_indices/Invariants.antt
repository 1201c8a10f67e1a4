use Rattle.std.proofs.Common.{◌≡◌, ◌++◌, take}
use Rattle.std.specs.List.{flat_map}
use Rattle.agm_net.specs.View.{plain_of}
use Rattle.probe_cones.specs.Observing.{index_bits}
use Rattle.probe_cones.proofs.observation.watch_indices.Given as goal

abbrev pub invariant-loop-index : goal.invariant-loop-index
invariant-loop-index l = l.row ≡ l.initial.row ++ flat_map (index_bits (plain_of l.net) l.table) (take l.index-index l.indices)
