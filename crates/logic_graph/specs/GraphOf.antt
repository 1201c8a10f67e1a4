-- The graph of a net.
use Rattle.std.specs.Prelude.{◌≡◌, ◌<◌, ◌+◌, ℕ, false, not, List, length, filter, count_by, Some, slice_get}
use Rattle.std.specs.List.{flat_map, AllByRecursion}
use Rattle.agm_net.specs.Formula.{Formula, f_zero, f_one, f_wire, f_not, f_and, f_or, f_xor, f_mux}
use Rattle.agm_net.specs.Plain.{Line, Stored, PlainNet, is_input, input_bits, clock_bits}
use Rattle.logic_graph.specs.declared.nodes.Node.{Node}
use Rattle.logic_graph.specs.declared.nodes.Node.TheVariants.{Zero, One, Input, Q, Not, Xor, And, Or, Mux}
use Rattle.logic_graph.specs.declared.drawing.Drawing.{Drawing}
use Rattle.logic_graph.specs.declared.graphs.Graph.{Graph}
use Rattle.logic_graph.specs.Nodes.{is_operator}
use Rattle.logic_graph.specs.Operators.{operators, first_number, operators_of}

-- the nodes of a graph, their numbers, and the node of each wire
abbrev pub drawing_of : Graph → Drawing
drawing_of graph = record { nodes = graph.nodes; numbers = graph.numbers; of_wire = graph.of_wire }

-- node k is this operator and has number m
abbrev pub IsNumbered : Drawing → ℕ → ℕ → Node → Type 0
IsNumbered d k m n = (slice_get d.nodes k ≡ Some n) × (slice_get d.numbers k ≡ Some m)

-- Node k stands for a formula whose first operator has number m. A wire's node stands for the wire. An operator's node has as operands
-- the nodes of the operator's operands. Numbers count up, an operand's operators before the next operand's, and an operator's own
-- number comes behind those of all its operands.
abbrev pub Stands : Drawing → ℕ → Formula → ℕ → Type 0
Stands d m f_zero k = slice_get d.nodes k ≡ Some Zero
Stands d m f_one k = slice_get d.nodes k ≡ Some One
Stands d m (f_wire w) k = slice_get d.of_wire w ≡ Some k
Stands d m (f_not x) k = (a : ℕ) × IsNumbered d k (m + operators x) (Not a) × Stands d m x a
Stands d m (f_and x y) k =
    (a : ℕ) × (b : ℕ) × IsNumbered d k (m + operators x + operators y) (And a b) × Stands d m x a × Stands d (m + operators x) y b
Stands d m (f_or x y) k =
    (a : ℕ) × (b : ℕ) × IsNumbered d k (m + operators x + operators y) (Or a b) × Stands d m x a × Stands d (m + operators x) y b
Stands d m (f_xor x y) k =
    (a : ℕ) × (b : ℕ) × IsNumbered d k (m + operators x + operators y) (Xor a b) × Stands d m x a × Stands d (m + operators x) y b
Stands d m (f_mux s x y) k =
    (c : ℕ) × (a : ℕ) × (b : ℕ) × IsNumbered d k (m + operators s + operators x + operators y) (Mux c a b)
    × Stands d m s c × Stands d (m + operators s) x a × Stands d (m + operators s + operators x) y b

-- the node of wire w is of this kind
abbrev pub HasNode : Drawing → ℕ → Node → Type 0
HasNode d w n = (k : ℕ) × (slice_get d.of_wire w ≡ Some k) × (slice_get d.nodes k ≡ Some n)

-- the bits of the output ports in port order, each from the most significant
abbrev pub output_bits : PlainNet → List ℕ
output_bits net = flat_map (λ p. p.bits) (filter (λ p. not (is_input p)) net.ports)

-- The graph of a net. Each wire has a node. An input bit has its own, a register's output has its own, and the clock's bit is constant 0.
-- The wire of an equation has the node that stands for the equation's formula. The sinks are the nodes of the output bits, and then those
-- that stand for the registers' next values. There are as many operator nodes as operators in the net: with different numbers, one for
-- each. Nodes that are no operators have number 0, and there is no node of an input bit or register that the net doesn't have.
pub record IsGraphOf (net : PlainNet) (graph : Graph) : Type 0 where
  pub wires : length graph.of_wire ≡ length net.wires
  pub inputs : (i w : ℕ) → slice_get (input_bits net) i ≡ Some w → HasNode (drawing_of graph) w (Input i)
  pub registers : (i : ℕ) (r : Stored) → slice_get net.registers i ≡ Some r → HasNode (drawing_of graph) r.q (Q i)
  pub clock : AllByRecursion (λ w. HasNode (drawing_of graph) w Zero) (clock_bits net)
  pub equations : (i : ℕ) (l : Line) → slice_get net.lines i ≡ Some l
      → (k : ℕ) × (slice_get graph.of_wire l.0 ≡ Some k) × Stands (drawing_of graph) (first_number net i) l.1 k
  pub sinks : length graph.sinks ≡ length (output_bits net) + length net.registers
  pub outputs : (i w : ℕ) → slice_get (output_bits net) i ≡ Some w → slice_get graph.sinks i ≡ slice_get graph.of_wire w
  pub next : (i : ℕ) (r : Stored) → slice_get net.registers i ≡ Some r
      → (k : ℕ) × (slice_get graph.sinks (length (output_bits net) + i) ≡ Some k)
      × Stands (drawing_of graph) (first_number net (length net.lines + i)) r.next k
  pub operator_nodes : count_by is_operator graph.nodes ≡ operators_of net
  pub other_numbers : (k : ℕ) (n : Node) → slice_get graph.nodes k ≡ Some n → is_operator n ≡ false → slice_get graph.numbers k ≡ Some 0
  pub input_nodes : (k i : ℕ) → slice_get graph.nodes k ≡ Some (Input i) → i < length (input_bits net)
  pub register_nodes : (k i : ℕ) → slice_get graph.nodes k ≡ Some (Q i) → i < length net.registers
