-- A graph, as it is made of a drawing.
use Rattle.std.specs.Prelude.{◌≡◌, ◌<◌, ◌+◌, ◌++◌, ℕ, false, List, All, Some, IsTrue, map, take, drop, length, count_by, slice_get, slice_index_or}
use Rattle.agm_net.specs.Plain.{PlainNet, input_bits}
use Rattle.logic_graph.specs.declared.nodes.Node.{Node}
use Rattle.logic_graph.specs.declared.nodes.Node.TheVariants.{Input, Q}
use Rattle.logic_graph.specs.Nodes.{is_operator, is_source, reads_before}
use Rattle.logic_graph.specs.Operators.{operators_of}
use Rattle.logic_graph.specs.declared.graphs.Graph.{Graph}
use Rattle.logic_graph.specs.declared.drawing.Drawing.{Drawing}
use Rattle.logic_graph.specs.GraphOf.{output_bits}

abbrev pub sinks_of : PlainNet → Drawing → List ℕ
sinks_of net d = map (λ w. slice_index_or d.of_wire w 0) (output_bits net) ++ drop (length net.wires) d.of_wire

pub record IsMade (net : PlainNet) (d : Drawing) (graph : Graph) : Type 0 where
  pub nodes : graph.nodes ≡ d.nodes
  pub numbers : graph.numbers ≡ d.numbers
  pub of_wire : graph.of_wire ≡ take (length net.wires) d.of_wire
  pub sinks : graph.sinks ≡ sinks_of net d

-- What stands in the drawing of a net.
pub record IsSound (net : PlainNet) (d : Drawing) : Type 0 where
  pub in_order : (k : ℕ) (n : Node) → slice_get d.nodes k ≡ Some n → IsTrue (reads_before k n)
  pub below : (w : ℕ) → slice_index_or d.of_wire w 0 < length d.nodes
  pub wires : length d.of_wire ≡ length net.wires + length net.registers
  pub one_each : (j k : ℕ) (n : Node) → slice_get d.nodes j ≡ Some n → slice_get d.nodes k ≡ Some n → IsTrue (is_source n) → j ≡ k
  pub numbered : length d.numbers ≡ length d.nodes
  pub numbers_differ : (j k m : ℕ) (a b : Node) → slice_get d.nodes j ≡ Some a → slice_get d.nodes k ≡ Some b → IsTrue (is_operator a) → IsTrue (is_operator b) → slice_get d.numbers j ≡ Some m → slice_get d.numbers k ≡ Some m → j ≡ k
  pub operator_nodes : count_by is_operator d.nodes ≡ operators_of net
  pub other_numbers : (k : ℕ) (n : Node) → slice_get d.nodes k ≡ Some n → is_operator n ≡ false → slice_get d.numbers k ≡ Some 0
  pub input_nodes : (k i : ℕ) → slice_get d.nodes k ≡ Some (Input i) → i < length (input_bits net)
  pub register_nodes : (k i : ℕ) → slice_get d.nodes k ≡ Some (Q i) → i < length net.registers

-- The parts of a graph, which keep what a graph keeps.
pub record AreParts (nodes : List Node) (sinks of_wire numbers : List ℕ) : Type 0 where
  pub in_order : (k : ℕ) (n : Node) → slice_get nodes k ≡ Some n → IsTrue (reads_before k n)
  pub sinks_fit : All (λ k. k < length nodes) sinks
  pub wires_fit : All (λ k. k < length nodes) of_wire
  pub one_each : (j k : ℕ) (n : Node) → slice_get nodes j ≡ Some n → slice_get nodes k ≡ Some n → IsTrue (is_source n) → j ≡ k
  pub numbered : length numbers ≡ length nodes
  pub numbers_differ : (j k m : ℕ) (a b : Node) → slice_get nodes j ≡ Some a → slice_get nodes k ≡ Some b → IsTrue (is_operator a) → IsTrue (is_operator b) → slice_get numbers j ≡ Some m → slice_get numbers k ≡ Some m → j ≡ k
