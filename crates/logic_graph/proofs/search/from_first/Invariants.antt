use Rattle.std.proofs.Common.{◌≡◌, drop}
use Rattle.logic_graph.specs.Searching as spec
use Rattle.logic_graph.proofs.search.from_first.Given as goal

abbrev pub invariant-loop-i : goal.invariant-loop-i
invariant-loop-i l = spec.from_first l.wire (drop l.i l.path) ≡ spec.from_first l.wire l.path
