-- How a pipeline grows, node by node.
use Rattle.std.specs.Prelude.{◌≡◌, ◌<◌, ℕ, Bool, List, Some, slice_get, IsTrue}
use Rattle.logic_graph.specs.Nodes.{xan_reads_before}
use Rattle.logic_graph.specs.declared.nodes.XanNode.{XanNode}
use Rattle.pipeline_balance.specs.Pipelines.{Signals, IsMade}
use Rattle.pipeline_balance.specs.Shared.{Places, Agree, placed}

abbrev pub AreInOrder : List XanNode → Type 0
AreInOrder nodes = (k : ℕ) (n : XanNode) → slice_get nodes k ≡ Some n → IsTrue (xan_reads_before k n)

-- The first nodes are made at their places; `others` are the signals of sources, of the load signal and of outputs.
abbrev pub AreMade : List XanNode → ℕ → Places → ((ℕ → ℕ → Bool) → Signals) → ℕ → (ℕ → ℕ → Bool) → Type 0
AreMade nodes done p others cycles bits = (k : ℕ) (n : XanNode) → k < done → slice_get nodes k ≡ Some n → IsMade cycles p.level (placed bits p (others bits)) k n

-- places with one node more
pub record HasMore (done : ℕ) (p q : Places) (size level : ℕ) (shares : List ℕ) : Type 0 where
  pub agree : Agree done p q
  pub new_size : q.size done ≡ size
  pub new_level : q.level done ≡ level
  pub new_shares : q.shares done ≡ shares
