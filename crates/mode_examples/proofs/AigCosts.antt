-- The costs of the mode of products and inversions.
use Rattle.std.proofs.Common.{◌==◌, ℕ, length, map, IsTrue}
use Rattle.std.specs.List.{flat_map}
use Rattle.std.proofs.lemmas.Bool.{eqb-true}
use Rattle.logic_graph.specs.declared.graphs.Graph.{Graph}
use Rattle.secrecy_spread.specs.Aig.{Term, t_zero, node_term, secret_products, distinct, AigGadgets, term_level, AigDepth}
use Rattle.secrecy_spread.specs.Levels.{greatest}
use Rattle.secrecy_spread.specs.declared.secrets.Secrets.{Secrets}
use Rattle.mode_examples.proofs.Rounds.{term_local, told, is_told}

abbrev term_in : Graph → ℕ → Term
term_in graph = told t_zero (λ at k n. node_term at n) graph.nodes

abbrev pub gadgets_in : Graph → Secrets → ℕ
gadgets_in graph s = length (distinct (flat_map (λ k. secret_products s (term_in graph k)) graph.sinks))

abbrev pub depth_in : Graph → Secrets → ℕ
depth_in graph s = greatest (map (λ k. term_level s (term_in graph k)) graph.sinks)

pub aig_gadgets : (graph : Graph) (s : Secrets) (n : ℕ) → IsTrue (n == gadgets_in graph s) → AigGadgets graph s n
aig_gadgets graph s n h = (term_in graph, is_told t_zero (λ at k m. node_term at m) graph.nodes term_local graph.in_order, eqb-true n (gadgets_in graph s) h)

pub aig_depth : (graph : Graph) (s : Secrets) (n : ℕ) → IsTrue (n == depth_in graph s) → AigDepth graph s n
aig_depth graph s n h = (term_in graph, is_told t_zero (λ at k m. node_term at m) graph.nodes term_local graph.in_order, eqb-true n (depth_in graph s) h)
