use Rattle.std.proofs.Common.{◌≡◌, ◌++◌, map, take, slice_index_or}
use Rattle.logic_graph.proofs.sources.add_nodes.Given as goal

abbrev pub invariant-loop-wire : goal.invariant-loop-wire
invariant-loop-wire l = l.sinks ≡ l.initial.sinks ++ map (λ w. slice_index_or l.of_wire w 0) (take l.wire-index l.wires)
