-- The passes over the nodes of a graph of inversions, products and exclusive ors.
use Rattle.std.specs.Prelude.{◌≡◌, ℕ, Bool, true, List, length, nat_lt, Some, slice_get}
use Rattle.logic_graph.specs.declared.nodes.XanNode.{XanNode}
use Rattle.logic_graph.specs.declared.nodes.XanNode.TheVariants.{Input, Q}
use Rattle.logic_graph.specs.Settled.{bit_of}
use Rattle.secrecy_spread.specs.NodeSecrets.{xan_secret}
use Rattle.secrecy_spread.specs.Levels.{xan_level}
use Rattle.level_plan.specs.PlanOf.{level_at}

-- whether the source that a node is, if it is one, is among so many input bits and registers
abbrev pub has_source : (inputs registers : ℕ) → XanNode → Bool
has_source inputs registers (Input i) = nat_lt i inputs
has_source inputs registers (Q r) = nat_lt r registers
has_source inputs registers _ = true

pub record AreFlags (nodes : List XanNode) (inputs registers flags : List Bool) : Type 0 where
  pub one_each : length flags ≡ length nodes
  pub tells : (k : ℕ) (n : XanNode) → slice_get nodes k ≡ Some n → bit_of flags k ≡ xan_secret inputs registers (bit_of flags) n

pub record AreLevels (nodes : List XanNode) (secret : List Bool) (levels : List ℕ) : Type 0 where
  pub one_each : length levels ≡ length nodes
  pub tells : (k : ℕ) (n : XanNode) → slice_get nodes k ≡ Some n → level_at levels k ≡ xan_level (bit_of secret) (level_at levels) n
