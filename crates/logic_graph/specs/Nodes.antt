-- Kinds of nodes, and their operands.
use Rattle.std.specs.Prelude.{ℕ, Bool, true, false, ◌&&◌, nat_lt}
use Rattle.logic_graph.specs.declared.nodes.Node.{Node}
use Rattle.logic_graph.specs.declared.nodes.Node.TheVariants.{Input, Q, Not, Xor, And, Or, Mux}
use Rattle.logic_graph.specs.declared.nodes.XanNode.{XanNode}
use Rattle.logic_graph.specs.declared.nodes.XanNode.TheVariants as xan

-- a source is an input bit or the output of a register
abbrev pub is_source : Node → Bool
is_source (Input i) = true
is_source (Q r) = true
is_source _ = false

-- an operator has operands
abbrev pub is_operator : Node → Bool
is_operator (Not a) = true
is_operator (Xor a b) = true
is_operator (And a b) = true
is_operator (Or a b) = true
is_operator (Mux s a b) = true
is_operator _ = false

-- whether each operand of a node is below k
abbrev pub reads_before : ℕ → Node → Bool
reads_before k (Not a) = nat_lt a k
reads_before k (Xor a b) = nat_lt a k && nat_lt b k
reads_before k (And a b) = nat_lt a k && nat_lt b k
reads_before k (Or a b) = nat_lt a k && nat_lt b k
reads_before k (Mux s a b) = nat_lt s k && (nat_lt a k && nat_lt b k)
reads_before k _ = true

-- the same of a node of inversions, products and exclusive ors
abbrev pub xan_reads_before : ℕ → XanNode → Bool
xan_reads_before k (xan.Not a) = nat_lt a k
xan_reads_before k (xan.Xor a b) = nat_lt a k && nat_lt b k
xan_reads_before k (xan.And a b) = nat_lt a k && nat_lt b k
xan_reads_before k _ = true
