-- Values of nodes.
use Rattle.std.specs.Prelude.{◌≡◌, ℕ, Bool, true, false, not, ◌&&◌, ◌||◌, cond, List, length, Some, slice_get, slice_index_or}
use Rattle.agm_net.specs.Formula.{xor}
use Rattle.agm_net.specs.Trace.{Row}
use Rattle.logic_graph.specs.declared.nodes.Node.{Node}
use Rattle.logic_graph.specs.declared.nodes.Node.TheVariants.{Zero, One, Input, Q, Not, Xor, And, Or, Mux}

-- bit k of a row, 0 behind its end
abbrev pub bit_of : Row → ℕ → Bool
bit_of row k = slice_index_or row k false

-- the value of a node for these values of input bits and registers, where node k has the value `at k`
abbrev pub node_value : (inputs registers at : ℕ → Bool) → Node → Bool
node_value inputs registers at Zero = false
node_value inputs registers at One = true
node_value inputs registers at (Input i) = inputs i
node_value inputs registers at (Q r) = registers r
node_value inputs registers at (Not a) = not (at a)
node_value inputs registers at (Xor a b) = xor (at a) (at b)
node_value inputs registers at (And a b) = at a && at b
node_value inputs registers at (Or a b) = at a || at b
node_value inputs registers at (Mux s a b) = cond (at s) (at b) (at a)

-- The values of all nodes for these values of input bits and registers: each is that of its node, by the values of its operands.
abbrev pub AreValues : List Node → (inputs registers values : ℕ → Bool) → Type 0
AreValues nodes inputs registers values = (k : ℕ) (n : Node) → slice_get nodes k ≡ Some n → values k ≡ node_value inputs registers values n

-- the same as rows
pub record IsSettled (nodes : List Node) (inputs registers values : Row) : Type 0 where
  pub one_each : length values ≡ length nodes
  pub is_value : AreValues nodes (bit_of inputs) (bit_of registers) (bit_of values)
