-- What the graph of a net says of the net's traces.
use Rattle.std.specs.Prelude.{◌≡◌, ◌<◌, ◌+◌, ℕ, Bool, false, List, Some, map, length, slice_get, slice_index_or}
use Rattle.std.specs.List.{AllByRecursion}
use Rattle.agm_net.specs.Formula.{value}
use Rattle.agm_net.specs.Plain.{PlainNet, Stored, input_bits, clock_bits}
use Rattle.agm_net.specs.Loop.{IsLoop}
use Rattle.agm_net.specs.Trace.{Row, Holds, row_at, bit_at, IsTrace}
use Rattle.logic_graph.specs.declared.graphs.Graph.{Graph}
use Rattle.logic_graph.specs.declared.ordering.GraphFault.{GraphFault}
use Rattle.logic_graph.specs.declared.ordering.GraphFault.TheVariants.{Loop, Memory}
use Rattle.logic_graph.specs.GraphOf.{output_bits}
use Rattle.logic_graph.specs.Settled.{bit_of, IsSettled}

-- what the registers hold in a row
abbrev pub held : PlainNet → (ℕ → Bool) → Row
held net bit = map (λ r. bit r.q) net.registers

-- The bits of wires in one cycle, for these values of input bits and registers: every equation holds, and the clock's bit is 0.
pub record IsCycle (net : PlainNet) (inputs registers bit : ℕ → Bool) : Type 0 where
  pub inputs_given : (n w : ℕ) → slice_get (input_bits net) n ≡ Some w → bit w ≡ inputs n
  pub registers_hold : (n : ℕ) (r : Stored) → slice_get net.registers n ≡ Some r → bit r.q ≡ registers n
  pub clock_is_low : AllByRecursion (λ w. bit w ≡ false) (clock_bits net)
  pub equations_hold : Holds bit net.lines

abbrev pub sink : Graph → ℕ → ℕ
sink graph i = slice_index_or graph.sinks i 0

-- The values of a graph's nodes tell the bits of a cycle: the node of a wire that of the wire, and the sinks the output bits in order and
-- then what each register holds in the next cycle.
pub record TellsBits (net : PlainNet) (graph : Graph) (bit values : ℕ → Bool) : Type 0 where
  pub wires : (w : ℕ) → w < length net.wires → values (slice_index_or graph.of_wire w 0) ≡ bit w
  pub outputs : (i w : ℕ) → slice_get (output_bits net) i ≡ Some w → values (sink graph i) ≡ bit w
  pub next : (i : ℕ) (r : Stored) → slice_get net.registers i ≡ Some r → values (sink graph (length (output_bits net) + i)) ≡ value bit r.next

-- In every trace of the net, the value of a wire in a cycle is the value of its node there.
abbrev pub Computes : PlainNet → Graph → Type 0
Computes net graph =
    (power : Row) (tape table : List Row) → IsTrace net power tape table → (t : ℕ) → t < length table
    → (values : Row) → IsSettled graph.nodes (row_at tape t) (held net (bit_at table t)) values
    → (w : ℕ) → w < length net.wires → bit_at table t w ≡ bit_of values (slice_index_or graph.of_wire w 0)

-- The net has exactly one trace for each row of power-up contents and each tape of the right widths.
abbrev pub HasOneTrace : PlainNet → Type 0
HasOneTrace net =
    (power : Row) (tape : List Row) → length power ≡ length net.registers → AllByRecursion (λ row. length row ≡ length (input_bits net)) tape
    → (table : List Row) × IsTrace net power tape table × ((other : List Row) → IsTrace net power tape other → other ≡ table)

-- a fault that names wires names a loop of the net
abbrev pub TellsLoop : PlainNet → GraphFault → Type 0
TellsLoop net (Loop wires) = IsLoop net wires
TellsLoop net Memory = Unit {0}
