-- What stands for the nodes of a graph: a row of new nodes for each live node, one row behind the other.
use Rattle.std.specs.Prelude.{◌≡◌, ◌+◌, ◌<◌, ◌≤◌, ◌↔◌, ℕ, Bool, true, false, List, [], ◌∷◌, ◌++◌, length, Some, slice_get, slice_index_or, IsTrue}
use Rattle.agm_net.specs.Loop.{IsChain, last_of}
use Rattle.logic_graph.specs.declared.nodes.Node.{Node}
use Rattle.logic_graph.specs.declared.nodes.Node.TheVariants.{Zero, One, Input, Q, Not, Xor, And, Or, Mux}
use Rattle.logic_graph.specs.declared.nodes.XanNode.{XanNode}
use Rattle.logic_graph.specs.declared.nodes.XanNode.TheVariants as xan
use Rattle.logic_graph.specs.Live.{reads_node, IsLive}
use Rattle.logic_graph.specs.Settled.{bit_of}
use Rattle.naive_mode.specs.declared.rows.Layout.{Layout}

-- the place of the node that stands for node k
abbrev pub place_at : List ℕ → ℕ → ℕ
place_at places k = slice_index_or places k 0

-- The row of a node, from place b on, where `p k` is the place of what stands for node k. Its last node stands for the node.
abbrev pub row : (b : ℕ) → (p : ℕ → ℕ) → Node → List XanNode
row b p Zero = xan.Zero ∷ []
row b p One = xan.One ∷ []
row b p (Input i) = xan.Input i ∷ []
row b p (Q r) = xan.Q r ∷ []
row b p (Not x) = xan.Not (p x) ∷ []
row b p (Xor x y) = xan.Xor (p x) (p y) ∷ []
row b p (And x y) = xan.And (p x) (p y) ∷ []
row b p (Or x y) = xan.Not (p x) ∷ xan.Not (p y) ∷ xan.And b (b + 1) ∷ xan.Not (b + 2) ∷ []
row b p (Mux s x y) = xan.Xor (p x) (p y) ∷ xan.And (p s) b ∷ xan.Xor (p x) (b + 1) ∷ []

-- the row of a node that is live or not
abbrev pub live_row : Bool → (b : ℕ) → (p : ℕ → ℕ) → Node → List XanNode
live_row true b p n = row b p n
live_row false b p n = []

-- the rows of nodes from number k on, from place b on
abbrev pub laid : (live : ℕ → Bool) → (p : ℕ → ℕ) → (b k : ℕ) → List Node → List XanNode
laid live p b k [] = []
laid live p b k (n ∷ ns) = live_row (live k) b p n ++ laid live p (b + length (live_row (live k) b p n)) (k + 1) ns

-- what stands for each live node is the last of its row
abbrev pub ArePlaced : (live : ℕ → Bool) → (p : ℕ → ℕ) → (b k : ℕ) → List Node → Type 0
ArePlaced live p b k [] = Unit {0}
ArePlaced live p b k (n ∷ ns) =
    (IsTrue (live k) → p k + 1 ≡ b + length (live_row (live k) b p n)) × ArePlaced live p (b + length (live_row (live k) b p n)) (k + 1) ns

pub record IsLaidOut (nodes : List Node) (live : List Bool) (layout : Layout) : Type 0 where
  pub one_each : length layout.places ≡ length nodes
  pub laid : layout.nodes ≡ laid (bit_of live) (place_at layout.places) 0 0 nodes
  pub placed : ArePlaced (bit_of live) (place_at layout.places) 0 0 nodes

-- Flags that come to hold when operands are marked: those that held, and what reads lead to from these.
pub record AreReached (nodes : List Node) (old new : ℕ → Bool) : Type 0 where
  pub keeps : (j : ℕ) → IsTrue (old j) → IsTrue (new j)
  pub sound : (j : ℕ) → IsTrue (new j) → (i : ℕ) × (ks : List ℕ) × IsTrue (old i) × IsChain (reads_node nodes) i ks × (last_of i ks ≡ j)
  pub closed : (i j : ℕ) → IsTrue (new i) → IsTrue (reads_node nodes i j) → IsTrue (new j)

-- the same where the operands of nodes from k on have been marked so far
pub record AreReachedFrom (k : ℕ) (nodes : List Node) (old new : ℕ → Bool) : Type 0 where
  pub keeps : (j : ℕ) → IsTrue (old j) → IsTrue (new j)
  pub sound : (j : ℕ) → IsTrue (new j) → (i : ℕ) × (ks : List ℕ) × IsTrue (old i) × IsChain (reads_node nodes) i ks × (last_of i ks ≡ j)
  pub closed : (i j : ℕ) → k ≤ i → IsTrue (new i) → IsTrue (reads_node nodes i j) → IsTrue (new j)

-- one flag for each node: whether it is live
pub record AreLive (nodes : List Node) (sinks : List ℕ) (flags : List Bool) : Type 0 where
  pub one_each : length flags ≡ length nodes
  pub tells : (k : ℕ) → k < length nodes → IsTrue (bit_of flags k) ↔ IsLive nodes sinks k
  pub closed : (i j : ℕ) → IsTrue (bit_of flags i) → IsTrue (reads_node nodes i j) → IsTrue (bit_of flags j)
  pub from_sinks : (i s : ℕ) → slice_get sinks i ≡ Some s → IsTrue (bit_of flags s)
