use Rattle.std.proofs.Common.{◌≡◌, ◌++◌, drop, map}
use Rattle.agm_net.specs.Formula.{formula_of}
use Rattle.logic_graph.specs.Drawn as spec
use Rattle.logic_graph.proofs.drawing.equation_numbers.Given as goal

abbrev pub invariant-loop-equation : goal.invariant-loop-equation
invariant-loop-equation l = record {
  numbers : l.numbers.items ++ spec.starts l.next (map (λ e. formula_of e.expr) (drop l.equation-index l.equations)) ≡ spec.starts 0 (map (λ e. formula_of e.expr) l.equations);
  behind : spec.behind l.next (map (λ e. formula_of e.expr) (drop l.equation-index l.equations)) ≡ spec.behind 0 (map (λ e. formula_of e.expr) l.equations);
}
