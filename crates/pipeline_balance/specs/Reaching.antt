-- How far nodes are carried.
use Rattle.std.specs.Prelude.{◌≡◌, ◌<◌, ◌≤◌, ◌-◌, ℕ, Bool, false, ◌&&◌, cond, List, [], ◌∷◌, max, length, slice_get, slice_index_or, slice_set, Some}
use Rattle.std.specs.List.{AllByRecursion}
use Rattle.logic_graph.specs.declared.nodes.XanNode.{XanNode}
use Rattle.logic_graph.specs.declared.nodes.XanNode.TheVariants.{Input, Q, Not, Xor, And}
use Rattle.pipeline_balance.specs.Piped.{node_at}

abbrev pub flag_at : List Bool → ℕ → Bool
flag_at flags k = slice_index_or flags k false

-- Where a node of a level reads: its operands, each with the level at which it is read. A product of two secrets reads one factor one
-- level below its own, and the other two.
abbrev pub reads_of : (secret : ℕ → Bool) → (late_first : Bool) → (level : ℕ) → XanNode → List (ℕ × ℕ)
reads_of secret late_first level (Xor a b) = (a, level) ∷ (b, level) ∷ []
reads_of secret late_first level (And a b) =
    cond (secret a && secret b)
    ((cond late_first a b, level - 1) ∷ (cond late_first b a, level - 2) ∷ [])
    ((a, level) ∷ (b, level) ∷ [])
reads_of secret late_first level _ = []

-- Nodes are carried to `last k`: from their levels on, as far as nodes read them, and sinks to the depth.
pub record AreReached (nodes : List XanNode) (sinks : List ℕ) (secret : List Bool) (levels : List ℕ) (late_first : List Bool) (depth : ℕ) (last : ℕ → ℕ) : Type 0 where
  pub begins : (k : ℕ) → node_at levels k ≤ last k
  pub reads : (k : ℕ) (n : XanNode) → slice_get nodes k ≡ Some n → AllByRecursion (λ r. r.1 ≤ last r.0) (reads_of (flag_at secret) (flag_at late_first k) (node_at levels k) n)
  pub ends : (j : ℕ) → j < length sinks → depth ≤ last (node_at sinks j)

-- a level raised to another
abbrev pub raised : List ℕ → (node level : ℕ) → List ℕ
raised lasts node level = slice_set lasts node (max (node_at lasts node) level)

abbrev pub raised_by : List ℕ → List (ℕ × ℕ) → List ℕ
raised_by lasts [] = lasts
raised_by lasts (r ∷ rs) = raised_by (raised lasts r.0 r.1) rs

-- The least such levels, of which the first k nodes' reads and the first j sinks are heeded.
pub record AreRaised (nodes : List XanNode) (sinks : List ℕ) (secret : List Bool) (levels : List ℕ) (late_first : List Bool) (depth k j : ℕ) (lasts : List ℕ) : Type 0 where
  pub count : length lasts ≡ length nodes
  pub begins : (i : ℕ) → node_at levels i ≤ node_at lasts i
  pub reads : (i : ℕ) (n : XanNode) → i < k → slice_get nodes i ≡ Some n
      → AllByRecursion (λ r. r.1 ≤ node_at lasts r.0) (reads_of (flag_at secret) (flag_at late_first i) (node_at levels i) n)
  pub ends : (i : ℕ) → i < j → depth ≤ node_at lasts (node_at sinks i)
  pub least : (last : ℕ → ℕ) → AreReached nodes sinks secret levels late_first depth last → (i : ℕ) → node_at lasts i ≤ last i

-- What a plan says of the level of node k: sources stand at level 0, an inversion at its operand's level, and no operand later than it is
-- read.
abbrev pub FitsLevels : (secret : ℕ → Bool) → (level : ℕ → ℕ) → (late_first : Bool) → ℕ → XanNode → Type 0
FitsLevels secret level late_first k (Input i) = level k ≡ 0
FitsLevels secret level late_first k (Q r) = level k ≡ 0
FitsLevels secret level late_first k (Not a) = level k ≡ level a
FitsLevels secret level late_first k (Xor a b) = (level a ≤ level k) × (level b ≤ level k)
FitsLevels secret level late_first k (And a b) =
    cond (secret a && secret b)
    ((2 ≤ level k) × (level (cond late_first a b) ≤ level k - 1) × (level (cond late_first b a) ≤ level k - 2))
    ((level a ≤ level k) × (level b ≤ level k))
FitsLevels secret level late_first k _ = Unit {0}
