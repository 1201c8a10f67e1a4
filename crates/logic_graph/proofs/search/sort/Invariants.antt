use Rattle.std.proofs.Common.{◌≡◌, ◌<◌, map, length, ℕ, []}
use Rattle.agm_net.specs.Plain.{line_of}
use Rattle.logic_graph.specs.Searching as spec
use Rattle.logic_graph.proofs.search.sort.Given as goal

abbrev pub invariant-loop-equation : goal.invariant-loop-equation
invariant-loop-equation l = record {
  searched : spec.IsSearch (map line_of l.equations) (spec.state l.search);
  off_path : l.search.path.items ≡ [];
  as_many : length l.search.marks ≡ l.n;
  done : (i : ℕ) → i < l.equation-index → spec.left_at l.search.marks (spec.line_at (map line_of l.equations) i).0 ≡ 0;
}
