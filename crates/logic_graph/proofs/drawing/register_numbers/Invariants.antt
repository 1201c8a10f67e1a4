use Rattle.std.proofs.Common.{◌≡◌, ◌++◌, drop, map}
use Rattle.agm_net.specs.Formula.{formula_of}
use Rattle.logic_graph.specs.Drawn as spec
use Rattle.logic_graph.proofs.drawing.register_numbers.Given as goal

abbrev pub invariant-loop-register : goal.invariant-loop-register
invariant-loop-register l = l.numbers.items ++ spec.starts l.next (map (λ r. formula_of r.next) (drop l.register-index l.registers)) ≡ spec.starts l.first (map (λ r. formula_of r.next) l.registers)
