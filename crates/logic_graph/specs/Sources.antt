-- Nodes of input bits and registers.
use Rattle.std.specs.Prelude.{ℕ, Bool, true, false, List, [], ◌∷◌, ◌++◌, ◌+◌, length, filter, slice_set}
use Rattle.std.specs.List.{flat_map}
use Rattle.agm_net.specs.declared.port.Way.{Way}
use Rattle.agm_net.specs.declared.port.Way.TheVariants.{Input, Output}
use Rattle.agm_net.specs.declared.port.Port.{Port}
use Rattle.logic_graph.specs.declared.nodes.Node.{Node}
use Rattle.logic_graph.specs.declared.drawing.Drawing.{Drawing}

abbrev pub goes : Way → Way → Bool
goes Input Input = true
goes Output Output = true
goes _ _ = false

-- the bits of the ports that go one way
abbrev pub bits_of : Way → List Port → List ℕ
bits_of way ports = flat_map (λ p. p.bits) (filter (λ p. goes way p.way) ports)

-- a wire has a new node that is no operator
abbrev pub with_source : Drawing → ℕ → Node → Drawing
with_source d w n = record { nodes = d.nodes ++ n ∷ []; numbers = d.numbers ++ 0 ∷ []; of_wire = slice_set d.of_wire w (length d.nodes) }

-- wires have new nodes, of one kind and numbered from i on
abbrev pub with_sources : (ℕ → Node) → ℕ → List ℕ → Drawing → Drawing
with_sources kind i [] d = d
with_sources kind i (w ∷ ws) d = with_sources kind (i + 1) ws (with_source d w (kind i))
