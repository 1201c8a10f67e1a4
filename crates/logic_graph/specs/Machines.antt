-- Values of graphs of inversions, products and exclusive ors, and when such a graph computes what the graph of a net does.
use Rattle.std.specs.Prelude.{◌≡◌, ◌<◌, ℕ, Bool, true, false, not, ◌&&◌, List, length, Some, slice_get, slice_index_or, IsTrue, nat_lt}
use Rattle.agm_net.specs.Formula.{xor}
use Rattle.agm_net.specs.Trace.{Row}
use Rattle.logic_graph.specs.declared.nodes.Node.TheVariants as node
use Rattle.logic_graph.specs.declared.nodes.XanNode.{XanNode}
use Rattle.logic_graph.specs.declared.nodes.XanNode.TheVariants.{Zero, One, Input, Q, Not, Xor, And}
use Rattle.logic_graph.specs.declared.graphs.Graph.{Graph}
use Rattle.logic_graph.specs.declared.graphs.Xan.{Xan}
use Rattle.logic_graph.specs.Settled.{bit_of, IsSettled}

-- the value of a node for these input bits and register contents, where node k has the value `at k`
abbrev pub xan_value : (inputs registers at : ℕ → Bool) → XanNode → Bool
xan_value inputs registers at Zero = false
xan_value inputs registers at One = true
xan_value inputs registers at (Input i) = inputs i
xan_value inputs registers at (Q r) = registers r
xan_value inputs registers at (Not a) = not (at a)
xan_value inputs registers at (Xor a b) = xor (at a) (at b)
xan_value inputs registers at (And a b) = at a && at b

-- Values of all nodes for these input bits and register contents: each is that of its node, by the values of its operands.
abbrev pub Solves : List XanNode → (inputs registers values : ℕ → Bool) → Type 0
Solves nodes inputs registers values = (k : ℕ) (n : XanNode) → slice_get nodes k ≡ Some n → values k ≡ xan_value inputs registers values n

-- the node at sink j
abbrev pub sink_at : List ℕ → ℕ → ℕ
sink_at sinks j = slice_index_or sinks j 0

-- A graph has as many sinks as that of a net, and at each of them the same value, for all values of input bits and registers.
pub record SameSinks (graph : Graph) (xan : Xan) : Type 0 where
  pub as_many : length xan.sinks ≡ length graph.sinks
  pub same : (inputs registers values : Row) (at : ℕ → Bool) → IsSettled graph.nodes inputs registers values → Solves xan.nodes (bit_of inputs) (bit_of registers) at
      → (j : ℕ) → j < length graph.sinks → at (sink_at xan.sinks j) ≡ bit_of values (sink_at graph.sinks j)

-- Each input bit and register of a graph is one of the graph of a net.
pub record SourcesAmong (graph : Graph) (xan : Xan) : Type 0 where
  pub inputs : (k i : ℕ) → slice_get xan.nodes k ≡ Some (Input i) → (j : ℕ) × (slice_get graph.nodes j ≡ Some (node.Input i))
  pub registers : (k r : ℕ) → slice_get xan.nodes k ≡ Some (Q r) → (j : ℕ) × (slice_get graph.nodes j ≡ Some (node.Q r))
