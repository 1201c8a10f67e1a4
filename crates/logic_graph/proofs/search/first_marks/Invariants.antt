use Rattle.std.proofs.Common.{◌≡◌, drop, map, replicate, length}
use Rattle.agm_net.specs.Plain.{line_of}
use Rattle.logic_graph.specs.declared.search.Mark.TheVariants.{Done}
use Rattle.logic_graph.specs.Searching as spec
use Rattle.logic_graph.proofs.search.first_marks.Given as goal

abbrev pub invariant-loop-i : goal.invariant-loop-i
invariant-loop-i l = record {
  as_many : length l.marks.items ≡ l.n;
  rest : spec.marked l.i (map line_of (drop l.i l.equations)) l.marks.items ≡ spec.marked 0 (map line_of l.equations) (replicate l.n Done);
}
