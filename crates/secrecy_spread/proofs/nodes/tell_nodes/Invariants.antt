use Rattle.std.proofs.Common.{◌≡◌, ◌<◌, ℕ, slice_get, Some}
use Rattle.logic_graph.specs.declared.nodes.Node.{Node}
use Rattle.logic_graph.specs.Settled.{bit_of}
use Rattle.secrecy_spread.specs.NodeSecrets.{is_secret}
use Rattle.secrecy_spread.proofs.nodes.tell_nodes.Given as goal

abbrev pub invariant-loop-k : goal.invariant-loop-k
invariant-loop-k l = (j : ℕ) (n : Node) → j < l.k → slice_get l.nodes j ≡ Some n → bit_of l.flags j ≡ is_secret l.inputs l.registers (bit_of l.flags) n
