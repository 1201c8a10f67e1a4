use Rattle.std.proofs.Common.{◌≡◌, map, take}
use Rattle.logic_graph.specs.Settled.{bit_of}
use Rattle.level_plan.specs.PlanOf.{is_late_first, level_at}
use Rattle.level_plan.proofs.levels.late_operands.Given as goal

abbrev pub invariant-loop-node : goal.invariant-loop-node
invariant-loop-node l = l.late ≡ map (is_late_first (bit_of l.secret) (level_at l.levels)) (take l.node-index l.nodes)
