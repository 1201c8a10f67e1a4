use Rattle.std.proofs.Common.{◌≡◌, ◌++◌, map, take}
use Rattle.logic_graph.specs.Settled.{bit_of}
use Rattle.probe_cones.proofs.observation.add_cone.Given as goal

abbrev pub invariant-loop-wire : goal.invariant-loop-wire
invariant-loop-wire l = l.row ≡ l.initial.row ++ map (bit_of l.bits) (take l.wire-index l.cone)
