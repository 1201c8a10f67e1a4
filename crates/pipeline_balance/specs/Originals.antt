-- Machines that compute what a net does.
use Rattle.std.specs.Prelude.{◌≡◌, length}
use Rattle.agm_net.specs.Plain.{PlainNet, input_bits}
use Rattle.logic_graph.specs.declared.graphs.Graph.{Graph}
use Rattle.logic_graph.specs.declared.graphs.Xan.{Xan}
use Rattle.logic_graph.specs.GraphOf.{output_bits}
use Rattle.logic_graph.specs.Machines.{SameSinks}
use Rattle.pipeline_balance.specs.Machines.{Machine, IsMachine}

-- A machine has the input bits, output bits and registers of a net. Its graph has the values of the net's at every sink.
pub record IsMachineOf (net : PlainNet) (graph : Graph) (m : Machine) : Type 0 where
  pub machine : IsMachine m
  pub inputs : m.inputs ≡ length (input_bits net)
  pub outputs : m.outputs ≡ length (output_bits net)
  pub registers : m.registers ≡ length net.registers
  pub xan : Xan
  pub nodes : xan.nodes ≡ m.nodes
  pub sinks : xan.sinks ≡ m.sinks
  pub same : SameSinks graph xan
