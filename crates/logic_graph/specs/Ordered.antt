-- What the graph of a net without a loop says.
use Rattle.agm_net.specs.Plain.{PlainNet}
use Rattle.agm_net.specs.Loop.{HasNoLoop, IsRanked}
use Rattle.logic_graph.specs.declared.graphs.Graph.{Graph}
use Rattle.logic_graph.specs.GraphOf.{IsGraphOf}
use Rattle.logic_graph.specs.Traces.{Computes, HasOneTrace}

pub record IsOrdered (net : PlainNet) (graph : Graph) : Type 0 where
  pub graph_of : IsGraphOf net graph
  pub computes : Computes net graph
  pub one_trace : HasOneTrace net
  pub ranked : IsRanked net
  pub no_loop : HasNoLoop net
