use Rattle.std.proofs.Common.{◌≡◌, ◌<◌, ◌≤◌, ◌*◌, ℕ, slice_get, Some}
use Rattle.logic_graph.specs.declared.nodes.XanNode.{XanNode}
use Rattle.logic_graph.specs.Settled.{bit_of}
use Rattle.secrecy_spread.specs.Levels.{xan_level}
use Rattle.level_plan.specs.PlanOf.{level_at}
use Rattle.level_plan.proofs.levels.tell_levels.Given as goal

abbrev pub invariant-loop-k : goal.invariant-loop-k
invariant-loop-k l = record {
  tells : (j : ℕ) (n : XanNode) → j < l.k → slice_get l.nodes j ≡ Some n → level_at l.levels j ≡ xan_level (bit_of l.secret) (level_at l.levels) n;
  low : (j : ℕ) → level_at l.levels j ≤ 2 * l.k;
}
