-- The graph and the secrets of a net, and what it takes in the modes, by tests.
use Rattle.std.proofs.Common.{◌==◌, ◌&&◌, ℕ, Bool, List, length, IsTrue}
use Rattle.std.specs.List.{AllByRecursion}
use Rattle.std.proofs.lemmas.Bool.{and_parts, eqb-true}
use Rattle.agm_net.specs.Plain.{PlainNet}
use Rattle.agm_net.specs.declared.mark.Mark.{Mark}
use Rattle.logic_graph.specs.Cuts.{IsRoot}
use Rattle.logic_graph.specs.GraphOf.{IsGraphOf}
use Rattle.logic_graph.specs.declared.graphs.Graph.{Graph}
use Rattle.secrecy_spread.specs.Aig.{AigGadgets, AigDepth}
use Rattle.secrecy_spread.specs.Bdd.{BddGadgets, BddDepth}
use Rattle.secrecy_spread.specs.Naive.{NaiveGadgets, NaiveDepth}
use Rattle.secrecy_spread.specs.SecretsOf.{SecretsOf}
use Rattle.secrecy_spread.specs.declared.secrets.Secrets.{Secrets}
use Rattle.mode_examples.specs.Takes.{Cost, Costs, Takes}
use Rattle.mode_examples.proofs.AigCosts as aig
use Rattle.mode_examples.proofs.BddCosts as bdd
use Rattle.mode_examples.proofs.Flags.{are_flags, are_secrets, do_spread, secrets_by, secrets_of, wire_flags}
use Rattle.mode_examples.proofs.Graphs.{does_fit, graph_of, is_graph, nodes_in}
use Rattle.mode_examples.proofs.NaiveCosts as naive
use Rattle.mode_examples.proofs.Nets.{IsNamed, clock_is_open, has_open_clock, is_net, is_ordered, ordered, well}

pub record Read (net : PlainNet) (marks : List Mark) : Type 0 where
  pub graph : Graph
  pub secrets : Secrets
  pub is_graph : IsGraphOf net graph
  pub are_secrets : SecretsOf net graph marks secrets

abbrev has_secrets : PlainNet → List Mark → Bool
has_secrets net marks = does_fit net && do_spread (nodes_in net) (secrets_by net marks (nodes_in net) (wire_flags net marks))

abbrev is_marked : PlainNet → List Mark → Bool
is_marked net marks = has_open_clock net marks && (length marks == length net.ports)

abbrev pub is_readable : PlainNet → List Mark → Bool
is_readable net marks = is_net net && (is_ordered net && (is_marked net marks && (are_flags net marks && has_secrets net marks)))

abbrev pub read : (net : PlainNet) (marks : List Mark) → AllByRecursion (IsNamed net) net.ports → IsTrue (is_readable net marks) → Read net marks
read net marks named h =
    let rest = and_parts (is_net net) (is_ordered net && (is_marked net marks && (are_flags net marks && has_secrets net marks))) h in
    let behind = and_parts (is_ordered net) (is_marked net marks && (are_flags net marks && has_secrets net marks)) rest.1 in
    let last = and_parts (is_marked net marks) (are_flags net marks && has_secrets net marks) behind.1 in
    let both = and_parts (are_flags net marks) (has_secrets net marks) last.1 in
    let marked = and_parts (has_open_clock net marks) (length marks == length net.ports) last.0 in
    let fits = and_parts (does_fit net) (do_spread (nodes_in net) (secrets_by net marks (nodes_in net) (wire_flags net marks))) both.1 in
    let is_well = well net named rest.0 in
    let order = ordered net behind.0 in
    let graph = graph_of net is_well order fits.0 in
    let of_net = is_graph net is_well order fits.0 in
    record {
      graph = graph;
      secrets = secrets_of net marks graph;
      is_graph = of_net;
      are_secrets = are_secrets net marks graph is_well order of_net (clock_is_open net marks marked.0) (eqb-true (length marks) (length net.ports) marked.1) both.0 fits.1;
    }

-- the costs in the naive mode, and in the mode of products and inversions
abbrev pub is_naive : Graph → Secrets → Cost → Bool
is_naive graph s c =
    naive.takes_gadgets graph s (naive.live_nodes graph.nodes graph.sinks) c.gadgets && naive.has_depth graph s (naive.levels_of graph s) c.depth

abbrev pub is_aig : Graph → Secrets → Cost → Bool
is_aig graph s c = (c.gadgets == aig.gadgets_in graph s) && (c.depth == aig.depth_in graph s)

-- those in the mode of decision diagrams, with these cuts and roots
abbrev is_bdd_by : Graph → Secrets → Cost → (cuts : List (List ℕ)) → (roots : List ℕ) → Bool
is_bdd_by graph s c cuts roots =
    bdd.are_trees graph cuts roots && (bdd.takes_gadgets graph s cuts roots c.gadgets && bdd.has_depth graph s cuts roots (bdd.levels_of graph s cuts roots) c.depth)

abbrev pub is_bdd : Graph → Secrets → Cost → (roots : List ℕ) → Bool
is_bdd graph s c roots = is_bdd_by graph s c (bdd.cuts_of graph) roots

module _ (net : PlainNet) (marks : List Mark) (r : Read net marks) (c : Cost) where
  naive_by : IsTrue (is_naive r.graph r.secrets c) → Costs NaiveGadgets NaiveDepth net marks c.gadgets c.depth
  naive_by h =
      let live = naive.live_nodes r.graph.nodes r.graph.sinks in
      let levels = naive.levels_of r.graph r.secrets in
      let parts = and_parts (naive.takes_gadgets r.graph r.secrets live c.gadgets) (naive.has_depth r.graph r.secrets levels c.depth) h in
      record {
        graph = r.graph;
        secrets = r.secrets;
        is_graph = r.is_graph;
        are_secrets = r.are_secrets;
        gadgets_are = naive.naive_gadgets r.graph r.secrets live c.gadgets parts.0;
        depth_is = naive.naive_depth r.graph r.secrets levels c.depth parts.1;
      }

  aig_by : IsTrue (is_aig r.graph r.secrets c) → Costs AigGadgets AigDepth net marks c.gadgets c.depth
  aig_by h =
      let parts = and_parts (c.gadgets == aig.gadgets_in r.graph r.secrets) (c.depth == aig.depth_in r.graph r.secrets) h in
      record {
        graph = r.graph;
        secrets = r.secrets;
        is_graph = r.is_graph;
        are_secrets = r.are_secrets;
        gadgets_are = aig.aig_gadgets r.graph r.secrets c.gadgets parts.0;
        depth_is = aig.aig_depth r.graph r.secrets c.depth parts.1;
      }

  bdd_by : (roots : List ℕ) → AllByRecursion (IsRoot r.graph (bdd.cut_in (bdd.cuts_of r.graph))) roots → IsTrue (is_bdd r.graph r.secrets c roots) → Costs BddGadgets BddDepth net marks c.gadgets c.depth
  bdd_by roots ways h =
      let cuts = bdd.cuts_of r.graph in
      let levels = bdd.levels_of r.graph r.secrets cuts roots in
      let trees = bdd.are_trees r.graph cuts roots in
      let gadgets = bdd.takes_gadgets r.graph r.secrets cuts roots c.gadgets in
      let deep = bdd.has_depth r.graph r.secrets cuts roots levels c.depth in
      let one = and_parts trees (gadgets && deep) h in
      let two = and_parts gadgets deep one.1 in
      record {
        graph = r.graph;
        secrets = r.secrets;
        is_graph = r.is_graph;
        are_secrets = r.are_secrets;
        gadgets_are = bdd.bdd_gadgets r.graph r.secrets cuts roots c.gadgets ways one.0 two.0;
        depth_is = bdd.bdd_depth r.graph r.secrets cuts roots levels c.depth ways one.0 two.1;
      }

-- all of them
pub takes_by : (net : PlainNet) (marks : List Mark) (r : Read net marks) (n a b : Cost) (roots : List ℕ) → AllByRecursion (IsRoot r.graph (bdd.cut_in (bdd.cuts_of r.graph))) roots
    → IsTrue (is_naive r.graph r.secrets n) → IsTrue (is_aig r.graph r.secrets a) → IsTrue (is_bdd r.graph r.secrets b roots) → Takes net marks n a b
takes_by net marks r n a b roots ways in_naive in_aig in_bdd = (naive_by net marks r n in_naive, aig_by net marks r a in_aig, bdd_by net marks r b roots ways in_bdd)
