use Rattle.std.proofs.Common.{◌≡◌, ◌<◌, ℕ, slice_get, Some}
use Rattle.logic_graph.specs.declared.nodes.XanNode.{XanNode}
use Rattle.logic_graph.specs.Settled.{bit_of}
use Rattle.secrecy_spread.specs.NodeSecrets.{xan_secret}
use Rattle.level_plan.proofs.flags.tell_nodes.Given as goal

abbrev pub invariant-loop-k : goal.invariant-loop-k
invariant-loop-k l = (j : ℕ) (n : XanNode) → j < l.k → slice_get l.nodes j ≡ Some n → bit_of l.flags j ≡ xan_secret l.inputs l.registers (bit_of l.flags) n
