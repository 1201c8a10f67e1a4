-- What the plan of a graph wants of its sources.
use Rattle.std.specs.Prelude.{◌≡◌, ◌<◌, ℕ, length, Some, slice_get}
use Rattle.logic_graph.specs.declared.graphs.Graph.{Graph}
use Rattle.logic_graph.specs.declared.nodes.Node.TheVariants.{Input, Q}
use Rattle.secrecy_spread.specs.declared.secrets.Secrets.{Secrets}

-- each source of a graph has an entry in the secrets
pub record HasEntries (graph : Graph) (s : Secrets) : Type 0 where
  pub inputs : (k i : ℕ) → slice_get graph.nodes k ≡ Some (Input i) → i < length s.inputs
  pub registers : (k r : ℕ) → slice_get graph.nodes k ≡ Some (Q r) → r < length s.registers
