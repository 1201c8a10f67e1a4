-- What a simulator has run.
use Rattle.std.specs.Prelude.{◌≡◌, ◌<◌, ◌++◌, ◌∷◌, true, false, List, [], length}
use Rattle.agm_net.specs.Plain.{PlainNet, input_bits}
use Rattle.agm_net.specs.Trace.{Row, bit_at, IsTrace}
use Rattle.agm_net.specs.WellFormed.{WellFormed}
use Rattle.logic_graph.specs.Settled.{IsSettled}
use Rattle.logic_graph.specs.GraphOf.{IsGraphOf}
use Rattle.logic_graph.specs.Traces.{held, Computes}
use Rattle.cycle_sim.specs.declared.sim.Sim.{Sim}

-- The simulator has run a net from these power-up contents, with these input bits cycle by cycle. Before the first cycle its registers
-- hold the power-up contents. Behind a cycle it has the values of all nodes for that cycle's input bits, and its registers hold what
-- they hold in that cycle in every trace of the net that has the same input bits before it.
pub record HasRun (net : PlainNet) (power : Row) (tape : List Row) (sim : Sim) : Type 0 where
  pub is_net : WellFormed net
  pub graph_of : IsGraphOf net sim.graph
  pub computes : Computes net sim.graph
  pub inputs : sim.inputs ≡ length (input_bits net)
  pub registers : length sim.registers ≡ length net.registers
  pub not_run : tape ≡ [] → (sim.has_run ≡ false) × (sim.registers ≡ power)
  pub run : (before : List Row) (last : Row) → tape ≡ before ++ last ∷ []
      → (sim.has_run ≡ true) × IsSettled sim.graph.nodes last sim.registers sim.values
      × ((tail table : List Row) → IsTrace net power (before ++ tail) table → length before < length table → held net (bit_at table (length before)) ≡ sim.registers)
