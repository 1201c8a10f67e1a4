-- Which nodes are secret: those that depend on a secret source.
use Rattle.std.specs.Prelude.{◌≡◌, ℕ, Bool, false, ◌||◌, List, length, Some, slice_get}
use Rattle.logic_graph.specs.declared.nodes.Node.{Node}
use Rattle.logic_graph.specs.declared.nodes.Node.TheVariants.{Zero, One, Input, Q, Not, Xor, And, Or, Mux}
use Rattle.logic_graph.specs.declared.nodes.XanNode.{XanNode}
use Rattle.logic_graph.specs.declared.nodes.XanNode.TheVariants as xan
use Rattle.logic_graph.specs.declared.graphs.Graph.{Graph}
use Rattle.logic_graph.specs.Settled.{bit_of}
use Rattle.secrecy_spread.specs.declared.secrets.Secrets.{Secrets}

-- Whether a node is secret, where `at k` says so of node k: a source is as it is told, and an operator where one of its operands is.
abbrev pub is_secret : (inputs registers : List Bool) → (at : ℕ → Bool) → Node → Bool
is_secret inputs registers at Zero = false
is_secret inputs registers at One = false
is_secret inputs registers at (Input i) = bit_of inputs i
is_secret inputs registers at (Q r) = bit_of registers r
is_secret inputs registers at (Not a) = at a
is_secret inputs registers at (Xor a b) = at a || at b
is_secret inputs registers at (And a b) = at a || at b
is_secret inputs registers at (Or a b) = at a || at b
is_secret inputs registers at (Mux c a b) = at c || (at a || at b)

-- one flag for each node, which says whether it is secret
pub record AreNodeSecrets (nodes : List Node) (inputs registers flags : List Bool) : Type 0 where
  pub one_each : length flags ≡ length nodes
  pub spread : (k : ℕ) (n : Node) → slice_get nodes k ≡ Some n → bit_of flags k ≡ is_secret inputs registers (bit_of flags) n

-- Secrets fit a graph when they have one entry for each of its nodes, which is as the sources' entries say.
abbrev pub Fits : Graph → Secrets → Type 0
Fits graph s = AreNodeSecrets graph.nodes s.inputs s.registers s.nodes

-- the same of nodes that are inversions, products and exclusive ors
abbrev pub xan_secret : (inputs registers : List Bool) → (at : ℕ → Bool) → XanNode → Bool
xan_secret inputs registers at xan.Zero = false
xan_secret inputs registers at xan.One = false
xan_secret inputs registers at (xan.Input i) = bit_of inputs i
xan_secret inputs registers at (xan.Q r) = bit_of registers r
xan_secret inputs registers at (xan.Not a) = at a
xan_secret inputs registers at (xan.Xor a b) = at a || at b
xan_secret inputs registers at (xan.And a b) = at a || at b

-- `secret k` says whether node k is secret, for all nodes
abbrev pub TellsNodes : List XanNode → Secrets → (secret : ℕ → Bool) → Type 0
TellsNodes nodes s secret = (k : ℕ) (n : XanNode) → slice_get nodes k ≡ Some n → secret k ≡ xan_secret s.inputs s.registers secret n
