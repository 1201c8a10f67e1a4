-- The costs of the mode of decision diagrams, by tests.
use Rattle.std.proofs.Common.{◌≡◌, ◌<◌, ◌==◌, ◌++◌, ◌+◌, ◌&&◌, ◌||◌, ◌↔◌, ℕ, Bool, false, not, cond, List, [], ◌∷◌, length, map, slice_index_or, IsTrue, refl, sym, ap, ◌∙◌, arith, inl, inr}
use Rattle.std.specs.List.{AllByRecursion, list_all, list_any, flat_map, range_with_len}
use Rattle.std.specs.Str.{bytes_eq}
use Rattle.std.proofs.lemmas.Bool.{and_parts, cases_Bool, cases_lt, eqb-true}
use Rattle.std.proofs.lemmas.List.{get_or_past}
use Rattle.std.proofs.lemmas.Slice.Eq.{bytes_eq-Decides}
use Rattle.agm_net.proofs.Lists.{found_of_all}
use Rattle.agm_net.specs.Loop.{IsChain, last_of}
use Rattle.logic_graph.specs.Cuts.{node_cut, TellsCuts, is_operator_at, IsRoot}
use Rattle.logic_graph.specs.Settled.{bit_of}
use Rattle.logic_graph.specs.declared.nodes.Node.{Node}
use Rattle.logic_graph.specs.declared.graphs.Graph.{Graph}
use Rattle.secrecy_spread.specs.Bdd.{Tree, tree_of, gate_value, TellsValues, TellsTrees, gadget_trees, distinct_trees, Trees, BddGadgets, tree_level, BddDepth}
use Rattle.secrecy_spread.specs.Levels.{greatest}
use Rattle.secrecy_spread.specs.declared.secrets.Secrets.{Secrets}
use Rattle.share_wiring.proofs.Decide.{each_passes}
use Rattle.mode_examples.proofs.NaiveCosts.{if_on}
use Rattle.mode_examples.proofs.Rounds.{cut_local, told, is_told}
use Rattle.mode_examples.proofs.Tests.{all_by, all_below, are_below, each_node, node_passes}

abbrev among : List ℕ → ℕ → Bool
among ks k = list_any (λ j. j == k) ks

-- ---- cuts, one after another

abbrev cut_after : Graph → List (List ℕ) → ℕ → List Node → List (List ℕ)
cut_after graph done k [] = done
cut_after graph done k (n ∷ ns) = cut_after graph (done ++ node_cut graph (λ j. slice_index_or done j []) k n ∷ []) (k + 1) ns

abbrev pub cuts_of : Graph → List (List ℕ)
cuts_of graph = cut_after graph [] 0 graph.nodes

abbrev pub cut_in : List (List ℕ) → ℕ → List ℕ
cut_in cuts k = slice_index_or cuts k []

abbrev is_cut : Graph → List (List ℕ) → ℕ → Node → Bool
is_cut graph cuts k n = bytes_eq (cut_in cuts k) (node_cut graph (cut_in cuts) k n)

pub tells_cuts : (graph : Graph) (cuts : List (List ℕ)) → IsTrue (each_node (is_cut graph cuts) graph.nodes) → TellsCuts graph (cut_in cuts)
tells_cuts graph cuts h k n at = (bytes_eq-Decides (cut_in cuts k) (node_cut graph (cut_in cuts) k n)).0 (node_passes (is_cut graph cuts) graph.nodes h k n at)

-- ---- roots

-- an operator is a root
abbrev is_listed : Graph → List ℕ → ℕ → Bool
is_listed graph roots k = not (is_operator_at graph k) || among roots k

abbrev are_closed : Graph → List (List ℕ) → List ℕ → Bool
are_closed graph cuts roots = list_all (is_listed graph roots) graph.sinks && list_all (λ j. list_all (is_listed graph roots) (cut_in cuts j)) roots

root_listed : (graph : Graph) (cuts : List (List ℕ)) (roots : List ℕ) → AllByRecursion (λ k. IsTrue (is_listed graph roots k)) graph.sinks → AllByRecursion (λ j. IsTrue (list_all (is_listed graph roots) (cut_in cuts j))) roots
    → (k : ℕ) (ks : List ℕ) → IsTrue (is_operator_at graph k) → IsChain (λ i j. is_operator_at graph j && list_any (λ v. v == i) (cut_in cuts j)) k ks → IsTrue (list_any (λ s. s == last_of k ks) graph.sinks) → IsTrue (among roots k)
root_listed graph cuts roots first more k [] is chain sink = if_on (is_operator_at graph k) (among roots k) (found_of_all (λ s. IsTrue (is_listed graph roots s)) graph.sinks first k sink) is
root_listed graph cuts roots first more k (j ∷ js) is chain sink =
    let step = and_parts (is_operator_at graph j) (list_any (λ v. v == k) (cut_in cuts j)) chain.0 in
    let before = root_listed graph cuts roots first more j js step.0 chain.1 sink in
    let own = found_of_all (λ i. IsTrue (list_all (is_listed graph roots) (cut_in cuts i))) roots more j before in
    if_on (is_operator_at graph k) (among roots k) (found_of_all (λ v. IsTrue (is_listed graph roots v)) (cut_in cuts j) (all_by (is_listed graph roots) (cut_in cuts j) own) k step.1) is

pub are_roots : (graph : Graph) (cuts : List (List ℕ)) (roots : List ℕ) → AllByRecursion (IsRoot graph (cut_in cuts)) roots → IsTrue (are_closed graph cuts roots) → (k : ℕ) → IsTrue (among roots k) ↔ IsRoot graph (cut_in cuts) k
are_roots graph cuts roots ways h k =
    let parts = and_parts (list_all (is_listed graph roots) graph.sinks) (list_all (λ j. list_all (is_listed graph roots) (cut_in cuts j)) roots) h in (
      (λ listed. found_of_all (IsRoot graph (cut_in cuts)) roots ways k listed),
      (λ root. root_listed graph cuts roots (all_by (is_listed graph roots) graph.sinks parts.0) (all_by (λ j. list_all (is_listed graph roots) (cut_in cuts j)) roots parts.1) k root.0 root.1 root.2 root.3),
    )

-- ---- trees

abbrev value_in : Graph → List ℕ → (ℕ → Bool) → ℕ → Bool
value_in graph cut x = told false (λ at k n. cond (among cut k) (x k) (gate_value at n)) graph.nodes

tells_values : (graph : Graph) (cut : List ℕ) → TellsValues graph cut (value_in graph cut)
tells_values graph cut x = is_told false (λ at k n. cond (among cut k) (x k) (gate_value at n)) graph.nodes (cut_local (among cut) x) graph.in_order

abbrev pub tree_in : Graph → List (List ℕ) → ℕ → Tree
tree_in graph cuts k = tree_of (λ x. value_in graph (cut_in cuts k) x k) (cut_in cuts k) (λ v. false)

pub tells_trees : (graph : Graph) (cuts : List (List ℕ)) → TellsTrees graph (cut_in cuts) (tree_in graph cuts)
tells_trees graph cuts k root = (value_in graph (cut_in cuts k), tells_values graph (cut_in cuts k), refl)

abbrev pub are_trees : Graph → List (List ℕ) → (roots : List ℕ) → Bool
are_trees graph cuts roots = each_node (is_cut graph cuts) graph.nodes && are_closed graph cuts roots

abbrev pub trees_in : (graph : Graph) (cuts : List (List ℕ)) (roots : List ℕ) → AllByRecursion (IsRoot graph (cut_in cuts)) roots → IsTrue (are_trees graph cuts roots) → Trees graph
trees_in graph cuts roots ways h =
    let parts = and_parts (each_node (is_cut graph cuts) graph.nodes) (are_closed graph cuts roots) h in
    record {
      cut = cut_in cuts;
      cuts = tells_cuts graph cuts parts.0;
      roots = roots;
      are_roots = are_roots graph cuts roots ways parts.1;
      tree = tree_in graph cuts;
      trees = tells_trees graph cuts;
    }

abbrev gadgets_in : Graph → Secrets → List (List ℕ) → List ℕ → ℕ
gadgets_in graph s cuts roots = length (distinct_trees (flat_map (λ k. gadget_trees (bit_of s.nodes) (cut_in cuts k) (tree_in graph cuts k)) roots))

abbrev pub takes_gadgets : Graph → Secrets → List (List ℕ) → (roots : List ℕ) → ℕ → Bool
takes_gadgets graph s cuts roots n = n == gadgets_in graph s cuts roots

pub bdd_gadgets : (graph : Graph) (s : Secrets) (cuts : List (List ℕ)) (roots : List ℕ) (n : ℕ) → AllByRecursion (IsRoot graph (cut_in cuts)) roots → IsTrue (are_trees graph cuts roots) → IsTrue (takes_gadgets graph s cuts roots n) → BddGadgets graph s n
bdd_gadgets graph s cuts roots n ways trees h = (trees_in graph cuts roots ways trees, eqb-true n (gadgets_in graph s cuts roots) h)

-- ---- levels, one after another

abbrev root_level : Graph → Secrets → List (List ℕ) → List ℕ → (level : ℕ → ℕ) → ℕ → ℕ
root_level graph s cuts roots level k = cond (among roots k) (tree_level (bit_of s.nodes) (cut_in cuts k) level (tree_in graph cuts k)) 0

abbrev level_after : Graph → Secrets → List (List ℕ) → List ℕ → List ℕ → List ℕ → List ℕ
level_after graph s cuts roots done [] = done
level_after graph s cuts roots done (k ∷ ks) = level_after graph s cuts roots (done ++ root_level graph s cuts roots (λ j. slice_index_or done j 0) k ∷ []) ks

abbrev pub levels_of : Graph → Secrets → List (List ℕ) → List ℕ → List ℕ
levels_of graph s cuts roots = level_after graph s cuts roots [] (range_with_len 0 (length graph.nodes))

abbrev level_in : List ℕ → ℕ → ℕ
level_in levels k = slice_index_or levels k 0

abbrev is_level : Graph → Secrets → List (List ℕ) → List ℕ → List ℕ → ℕ → Bool
is_level graph s cuts roots levels k = level_in levels k == root_level graph s cuts roots (level_in levels) k

abbrev are_levels : Graph → Secrets → List (List ℕ) → List ℕ → List ℕ → Bool
are_levels graph s cuts roots levels = list_all (is_level graph s cuts roots levels) (range_with_len 0 (length levels)) && are_below (length levels) roots

abbrev pub has_depth : Graph → Secrets → List (List ℕ) → (roots levels : List ℕ) → ℕ → Bool
has_depth graph s cuts roots levels n = are_levels graph s cuts roots levels && (n == greatest (map (level_in levels) graph.sinks))

tells_levels : (graph : Graph) (s : Secrets) (cuts : List (List ℕ)) (roots levels : List ℕ) → IsTrue (are_levels graph s cuts roots levels) → (k : ℕ) → level_in levels k ≡ root_level graph s cuts roots (level_in levels) k
tells_levels graph s cuts roots levels h k =
    let parts = and_parts (list_all (is_level graph s cuts roots levels) (range_with_len 0 (length levels))) (are_below (length levels) roots) h in
    elim (cases_lt k (length levels)) [
      | inl lt ↦ eqb-true (level_in levels k) (root_level graph s cuts roots (level_in levels) k) (each_passes (is_level graph s cuts roots levels) (length levels) k parts.0 lt)
      | inr ge ↦ (
          let no_root : among roots k ≡ false = elim (cases_Bool (among roots k)) [
            | inl has ↦ absurd (let lt = found_of_all (λ j. j < length levels) roots (all_below (length levels) roots parts.1) k has in omega (arith, lt, ge))
            | inr none ↦ none
          ] in
          get_or_past levels k 0 ge ∙ sym (ap (λ b. cond b (tree_level (bit_of s.nodes) (cut_in cuts k) (level_in levels) (tree_in graph cuts k)) 0) no_root))
    ]

pub bdd_depth : (graph : Graph) (s : Secrets) (cuts : List (List ℕ)) (roots levels : List ℕ) (n : ℕ) → AllByRecursion (IsRoot graph (cut_in cuts)) roots → IsTrue (are_trees graph cuts roots) → IsTrue (has_depth graph s cuts roots levels n) → BddDepth graph s n
bdd_depth graph s cuts roots levels n ways trees h =
    let parts = and_parts (are_levels graph s cuts roots levels) (n == greatest (map (level_in levels) graph.sinks)) h in
    (trees_in graph cuts roots ways trees, level_in levels, tells_levels graph s cuts roots levels parts.0, eqb-true n (greatest (map (level_in levels) graph.sinks)) parts.1)
