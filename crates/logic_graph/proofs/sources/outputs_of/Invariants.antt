use Rattle.std.proofs.Common.{◌≡◌, map, take}
use Rattle.logic_graph.proofs.sources.outputs_of.Given as goal

abbrev pub invariant-loop-register : goal.invariant-loop-register
invariant-loop-register l = l.wires ≡ map (λ r. r.q) (take l.register-index l.registers)
