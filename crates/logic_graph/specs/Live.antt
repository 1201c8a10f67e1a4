-- Which nodes of a graph its sinks depend on.
use Rattle.std.specs.Prelude.{◌≡◌, ◌==◌, ℕ, Bool, true, false, ◌||◌, List, IsTrue, slice_get, is_some}
use Rattle.std.specs.List.{list_any}
use Rattle.std.specs.Option.{option_map_or}
use Rattle.agm_net.specs.Loop.{IsChain, last_of}
use Rattle.logic_graph.specs.declared.nodes.Node.{Node}
use Rattle.logic_graph.specs.declared.nodes.Node.TheVariants.{Not, Xor, And, Or, Mux}

-- whether node j is an operand of a node
abbrev pub has_operand : ℕ → Node → Bool
has_operand j (Not a) = a == j
has_operand j (Xor a b) = (a == j) || (b == j)
has_operand j (And a b) = (a == j) || (b == j)
has_operand j (Or a b) = (a == j) || (b == j)
has_operand j (Mux s a b) = (s == j) || ((a == j) || (b == j))
has_operand j _ = false

-- whether node k reads node j
abbrev pub reads_node : List Node → ℕ → ℕ → Bool
reads_node nodes k j = option_map_or (has_operand j) (slice_get nodes k) false

-- A node is live when reads lead from a sink to it, none of which passes a register.
abbrev pub IsLive : List Node → (sinks : List ℕ) → ℕ → Type 0
IsLive nodes sinks k =
    (sink : ℕ) × (ks : List ℕ) × IsTrue (list_any (λ s. s == sink) sinks) × IsChain (reads_node nodes) sink ks × (last_of sink ks ≡ k)
