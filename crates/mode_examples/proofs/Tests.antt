-- Tests on lists, and what they decide.
use Rattle.std.proofs.Common.{◌≡◌, ◌<◌, ◌≤◌, ◌==◌, ℕ, Bool, List, [], ◌∷◌, All, length, count_by, IsTrue, nat_lt, nat_le, slice_get, slice_index_or, Some, subst, arith, inl, inr, ltb-true}
use Rattle.std.specs.List.{AllByRecursion, list_all, list_any, range_with_len}
use Rattle.std.proofs.lemmas.Bool.{and_parts, cases_Bool, leb-true}
use Rattle.std.proofs.lemmas.Option.{slice_get_within, get_or_from_slice_get}
use Rattle.agm_net.proofs.Lists.{all_from, count_none, found_of_all}
use Rattle.logic_graph.specs.declared.nodes.Node.{Node}
use Rattle.logic_graph.specs.declared.nodes.Node.TheVariants.{Zero}
use Rattle.logic_graph.proofs.NetParts.{all_items}
use Rattle.share_wiring.proofs.Decide.{each_passes}

pub all_by : {X : Type 0} (test : X → Bool) (xs : List X) → IsTrue (list_all test xs) → AllByRecursion (λ x. IsTrue (test x)) xs
all_by test [] h = tt
all_by test (x ∷ xs) h = let parts = and_parts (test x) (list_all test xs) h in (parts.0, all_by test xs parts.1)

abbrev pub are_below : ℕ → List ℕ → Bool
are_below n ws = list_all (λ w. nat_lt w n) ws

pub all_below : (n : ℕ) (ws : List ℕ) → IsTrue (are_below n ws) → AllByRecursion (λ w. w < n) ws
all_below n ws h = all_from (λ w. IsTrue (nat_lt w n)) (λ w. w < n) (λ w lt. ltb-true w n lt) ws (all_by (λ w. nat_lt w n) ws h)

pub items_below : (n : ℕ) (ws : List ℕ) → IsTrue (are_below n ws) → All (λ w. w < n) ws
items_below n ws h = all_items (λ w. w < n) ws (all_below n ws h)

-- no wire stands twice in a list
abbrev pub are_once : List ℕ → Bool
are_once ws = list_all (λ v. nat_le (count_by (λ w. w == v) ws) 1) ws

pub all_once : (ws : List ℕ) → IsTrue (are_once ws) → (v : ℕ) → count_by (λ w. w == v) ws ≤ 1
all_once ws h v =
    let times = λ (u : ℕ). count_by (λ w. w == u) ws in
    elim (cases_Bool (list_any (λ w. w == v) ws)) [
      | inl some ↦ found_of_all (λ u. times u ≤ 1) ws (all_from (λ u. IsTrue (nat_le (times u) 1)) (λ u. times u ≤ 1) (λ u le. leb-true (times u) 1 le) ws (all_by (λ u. nat_le (times u) 1) ws h)) v some
      | inr none ↦ (let no = count_none (λ w. w == v) ws none in omega (arith, no))
    ]

-- a test that each node passes, with its place
abbrev pub each_node : (ℕ → Node → Bool) → List Node → Bool
each_node test nodes = list_all (λ k. test k (slice_index_or nodes k Zero)) (range_with_len 0 (length nodes))

pub node_passes : (test : ℕ → Node → Bool) (nodes : List Node) → IsTrue (each_node test nodes) → (k : ℕ) (n : Node) → slice_get nodes k ≡ Some n → IsTrue (test k n)
node_passes test nodes h k n at =
    subst (λ m. IsTrue (test k m)) (get_or_from_slice_get nodes k n Zero at)
    (each_passes (λ j. test j (slice_index_or nodes j Zero)) (length nodes) k h (slice_get_within nodes k n at))
