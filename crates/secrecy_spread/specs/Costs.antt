-- What a graph of inversions, products and exclusive ors costs.
use Rattle.std.specs.Prelude.{◌≡◌, ℕ, Bool, false, ◌&&◌, count_by}
use Rattle.logic_graph.specs.declared.nodes.XanNode.{XanNode}
use Rattle.logic_graph.specs.declared.nodes.XanNode.TheVariants.{And}
use Rattle.logic_graph.specs.declared.graphs.Xan.{Xan}
use Rattle.secrecy_spread.specs.declared.secrets.Secrets.{Secrets}
use Rattle.secrecy_spread.specs.NodeSecrets.{TellsNodes}
use Rattle.secrecy_spread.specs.Levels.{TellsLevels, depth_of}

-- whether a node is a product of two secret factors, which takes a gadget
abbrev pub is_gadget : (secret : ℕ → Bool) → XanNode → Bool
is_gadget secret (And a b) = secret a && secret b
is_gadget secret _ = false

-- the number of gadgets
abbrev pub XanGadgets : Xan → Secrets → ℕ → Type 0
XanGadgets xan s n = (secret : ℕ → Bool) × TellsNodes xan.nodes s secret × (n ≡ count_by (is_gadget secret) xan.nodes)

-- the depth
abbrev pub XanDepth : Xan → Secrets → ℕ → Type 0
XanDepth xan s n =
    (secret : ℕ → Bool) × (level : ℕ → ℕ) × TellsNodes xan.nodes s secret × TellsLevels xan.nodes secret level × (n ≡ depth_of secret level xan.sinks)
