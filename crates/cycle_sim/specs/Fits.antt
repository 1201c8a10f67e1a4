-- Sources of a graph that are there.
use Rattle.std.specs.Prelude.{ℕ, Bool, true, nat_lt}
use Rattle.logic_graph.specs.declared.nodes.Node.{Node}
use Rattle.logic_graph.specs.declared.nodes.Node.TheVariants.{Input, Q}

-- whether the input bit or register of a node is among so many
abbrev pub sources_fit : ℕ → ℕ → Node → Bool
sources_fit inputs registers (Input i) = nat_lt i inputs
sources_fit inputs registers (Q r) = nat_lt r registers
sources_fit inputs registers _ = true
