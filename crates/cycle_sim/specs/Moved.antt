-- The two halves of a step.
use Rattle.std.specs.Prelude.{◌≡◌, ◌-◌, true, map, drop, length}
use Rattle.agm_net.specs.Trace.{Row}
use Rattle.logic_graph.specs.Settled.{bit_of, IsSettled}
use Rattle.cycle_sim.specs.declared.sim.Sim.{Sim}

-- registers hold what their sinks had
pub record HasTakenOver (before now : Sim) : Type 0 where
  pub graph : now.graph ≡ before.graph
  pub inputs : now.inputs ≡ before.inputs
  pub registers : now.registers ≡ map (λ s. bit_of before.values s) (drop (length before.graph.sinks - length before.registers) before.graph.sinks)

-- nodes have their values
pub record HasSettled (before : Sim) (row : Row) (now : Sim) : Type 0 where
  pub graph : now.graph ≡ before.graph
  pub inputs : now.inputs ≡ before.inputs
  pub registers : now.registers ≡ before.registers
  pub values : IsSettled now.graph.nodes row now.registers now.values
  pub has_run : now.has_run ≡ true
