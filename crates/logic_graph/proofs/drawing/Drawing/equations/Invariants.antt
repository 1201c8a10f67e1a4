use Rattle.std.proofs.Common.{◌≡◌, map, length, drop}
use Rattle.agm_net.specs.Plain.{line_of}
use Rattle.logic_graph.specs.Drawn as spec
use Rattle.logic_graph.proofs.drawing.Drawing.equations.Given as goal

abbrev pub invariant-loop-i : goal.invariant-loop-i
invariant-loop-i l = record {
  as_many : length l.self.of_wire ≡ length l.fn.self.of_wire;
  rest : spec.with_jobs (spec.jobs (map line_of l.equations) l.firsts (drop l.i-index l.order)) l.self ≡ spec.with_jobs (spec.jobs (map line_of l.equations) l.firsts l.order) l.fn.self;
}
