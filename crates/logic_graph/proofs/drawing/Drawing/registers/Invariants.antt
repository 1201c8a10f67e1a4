use Rattle.std.proofs.Common.{◌≡◌, ◌<◌, ◌^◌, ◌+◌, map, length, drop}
use Rattle.agm_net.specs.Formula.{formula_of}
use Rattle.logic_graph.specs.Drawn as spec
use Rattle.logic_graph.proofs.drawing.Drawing.registers.Given as goal

abbrev pub invariant-loop-i : goal.invariant-loop-i
invariant-loop-i l = record {
  as_many : length l.self.of_wire ≡ length l.fn.self.of_wire;
  fits : length l.self.of_wire < 2 ^ 64;
  rest : spec.with_jobs (spec.next_jobs (l.from + l.i) (map (λ r. formula_of r.next) (drop l.i l.registers)) (drop l.i l.firsts)) l.self ≡ spec.with_jobs (spec.next_jobs l.from (map (λ r. formula_of r.next) l.registers) l.firsts) l.fn.self;
}
