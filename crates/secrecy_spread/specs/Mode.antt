-- What a mode makes of the graph of a net.
use Rattle.std.specs.Prelude.{◌≡◌, ◌<◌, ℕ, Bool, false, length}
use Rattle.logic_graph.specs.declared.graphs.Graph.{Graph}
use Rattle.logic_graph.specs.declared.graphs.Xan.{Xan}
use Rattle.logic_graph.specs.Settled.{bit_of}
use Rattle.logic_graph.specs.Machines.{SameSinks, SourcesAmong, sink_at}
use Rattle.secrecy_spread.specs.declared.secrets.Secrets.{Secrets}
use Rattle.secrecy_spread.specs.NodeSecrets.{TellsNodes}
use Rattle.secrecy_spread.specs.Costs.{XanGadgets, XanDepth}

-- a sink without secrets stays without
abbrev pub StaysPublic : Graph → Secrets → Xan → Type 0
StaysPublic graph s xan =
    (secret : ℕ → Bool) → TellsNodes xan.nodes s secret
    → (j : ℕ) → j < length graph.sinks → bit_of s.nodes (sink_at graph.sinks j) ≡ false → secret (sink_at xan.sinks j) ≡ false

-- A graph of inversions, products and exclusive ors that a mode makes of the graph of a net: it has the same values at its sinks, no
-- further sources and no further secret sinks, and as many gadgets and the depth that are defined for the mode.
pub record IsMadeBy (Gadgets Depth : Graph → Secrets → ℕ → Type 0) (graph : Graph) (s : Secrets) (xan : Xan) : Type 0 where
  pub same : SameSinks graph xan
  pub among : SourcesAmong graph xan
  pub stays_public : StaysPublic graph s xan
  pub gadgets : (n : ℕ) → XanGadgets xan s n → Gadgets graph s n
  pub depth : (n : ℕ) → XanDepth xan s n → Depth graph s n
