-- The graph of a net whose equations stand in order.
use Rattle.std.proofs.Common.{◌&&◌, ℕ, Bool, List, take, length, IsTrue, refl}
use Rattle.std.proofs.lemmas.Bool.{and_parts}
use Rattle.agm_net.specs.Plain.{PlainNet}
use Rattle.agm_net.specs.WellFormed.{WellFormed}
use Rattle.logic_graph.specs.Drawn.{net_drawing}
use Rattle.logic_graph.specs.GraphOf.{IsGraphOf}
use Rattle.logic_graph.specs.Made.{sinks_of}
use Rattle.logic_graph.specs.Searching.{IsOrder}
use Rattle.logic_graph.specs.declared.nodes.Node.{Node}
use Rattle.logic_graph.specs.declared.graphs.Graph.{Graph}
use Rattle.logic_graph.proofs.GraphMade.{made_graph}
use Rattle.logic_graph.proofs.NetDrawing.{net_is_sound}
use Rattle.mode_examples.proofs.Nets.{places}
use Rattle.mode_examples.proofs.Tests.{are_below, items_below}

abbrev pub sinks_in : PlainNet → List ℕ
sinks_in net = sinks_of net (net_drawing net (places net))

abbrev pub wires_in : PlainNet → List ℕ
wires_in net = take (length net.wires) (net_drawing net (places net)).of_wire

abbrev pub nodes_in : PlainNet → List Node
nodes_in net = (net_drawing net (places net)).nodes

-- sinks and wires have nodes
abbrev pub does_fit : PlainNet → Bool
does_fit net = are_below (length (nodes_in net)) (sinks_in net) && are_below (length (nodes_in net)) (wires_in net)

abbrev pub graph_of : (net : PlainNet) → WellFormed net → IsOrder net.lines (places net) → IsTrue (does_fit net) → Graph
graph_of net well order fit =
    let sound = net_is_sound net (places net) well order in
    let parts = and_parts (are_below (length (nodes_in net)) (sinks_in net)) (are_below (length (nodes_in net)) (wires_in net)) fit in
    record {
      nodes = nodes_in net;
      sinks = sinks_in net;
      of_wire = wires_in net;
      numbers = (net_drawing net (places net)).numbers;
      in_order = sound.in_order;
      sinks_fit = items_below (length (nodes_in net)) (sinks_in net) parts.0;
      wires_fit = items_below (length (nodes_in net)) (wires_in net) parts.1;
      one_each = sound.one_each;
      numbered = sound.numbered;
      numbers_differ = sound.numbers_differ;
    }

pub is_graph : (net : PlainNet) (well : WellFormed net) (order : IsOrder net.lines (places net)) (fit : IsTrue (does_fit net)) → IsGraphOf net (graph_of net well order fit)
is_graph net well order fit = made_graph net (places net) (graph_of net well order fit) well order (record { nodes = refl; numbers = refl; of_wire = refl; sinks = refl })
