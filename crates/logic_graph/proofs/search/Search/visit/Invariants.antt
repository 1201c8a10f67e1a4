use Rattle.std.proofs.Common.{◌≡◌, ◌<◌, map, length, sum_by}
use Rattle.agm_net.specs.Plain.{line_of}
use Rattle.logic_graph.specs.Searching as spec
use Rattle.logic_graph.proofs.search.Search.visit.Given as goal

abbrev pub invariant-loop-alloc : goal.invariant-loop-alloc
invariant-loop-alloc l = record {
  searched : spec.IsSearch (map line_of l.equations) (spec.state l.self);
  none_back : spec.NoneBack l.fn.self.marks l.self.marks;
  started : spec.left_at l.self.marks l.wire < 2;
  as_many : length l.self.marks ≡ length l.fn.self.marks;
}

abbrev pub decreases-loop-alloc : goal.decreases-loop-alloc
decreases-loop-alloc l = sum_by spec.steps_left l.self.marks
