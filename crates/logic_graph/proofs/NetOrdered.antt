-- The graph of a net whose equations stand in an order.
use Rattle.std.proofs.Common.{◌≡◌, List, ℕ, IfOk, subst, Result, Ok, Err}
use Rattle.agm_bits.specs.declared.list.Memory.{Memory}
use Rattle.agm_net.specs.Plain.{PlainNet}
use Rattle.agm_net.specs.Run.{run_of}
use Rattle.agm_net.specs.WellFormed.{WellFormed}
use Rattle.agm_net.proofs.Ranks.{ranked}
use Rattle.agm_net.proofs.Traces.{run_is_trace, trace_is_run}
use Rattle.logic_graph.specs.declared.graphs.Graph.{Graph}
use Rattle.logic_graph.specs.declared.drawing.Drawing.{Drawing}
use Rattle.logic_graph.specs.Searching.{IsOrder}
use Rattle.logic_graph.specs.Drawn.{net_drawing}
use Rattle.logic_graph.specs.Made.{IsMade}
use Rattle.logic_graph.specs.Ordered.{IsOrdered}
use Rattle.logic_graph.proofs.GraphMade.{made_graph}
use Rattle.logic_graph.proofs.Values.{computes, ordered_no_loop}

one_ordered : (net : PlainNet) (order : List ℕ) (g : Graph) → WellFormed net → IsOrder net.lines order → IsMade net (net_drawing net order) g → IsOrdered net g
one_ordered net order g well h made =
    let graph = made_graph net order g well h made in
    let none = ordered_no_loop net order h in
    record {
      graph_of = graph;
      computes = computes net g well none graph;
      one_trace = λ power tape powered wide. (run_of net power tape, run_is_trace net well none power tape (record { powered = powered; as_wide = wide }), trace_is_run net well none power tape);
      ranked = ranked net well none;
      no_loop = none;
    }

pub ordered : (net : PlainNet) (order : List ℕ) (d : Drawing) (r : Result Graph Memory) → WellFormed net → IsOrder net.lines order → d ≡ net_drawing net order → IfOk r (IsMade net d) → IfOk r (IsOrdered net)
ordered net order d (Err e) well h is made = tt
ordered net order d (Ok g) well h is made = one_ordered net order g well h (subst (λ x. IsMade net x g) is made)
