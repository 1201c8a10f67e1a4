-- The costs of the naive mode, by tests.
use Rattle.std.proofs.Common.{◌≡◌, ◌<◌, ◌≤◌, ◌+◌, ◌-◌, ◌==◌, ◌++◌, ◌&&◌, ◌||◌, ◌↔◌, ℕ, zero, suc, Bool, true, false, not, List, [], ◌∷◌, length, count_by, slice_get, slice_index_or, Option, Some, None, IsTrue, refl, sym, ◌∙◌, subst, arith, inl, inr}
use Rattle.std.specs.List.{list_all, list_any, enumerate_from, range_with_len}
use Rattle.std.specs.Option.{option_map_or}
use Rattle.std.proofs.lemmas.Bool.{and_parts, eqb-true, or_cases, or_left, or_right}
use Rattle.std.proofs.lemmas.List.FromFn.{get_or-range_with_len, length-range_with_len}
use Rattle.std.proofs.lemmas.Option.{slice_get_within, get_or_from_slice_get}
use Rattle.agm_net.proofs.Lists.{found_of_all, place_of_any}
use Rattle.agm_net.specs.Loop.{IsChain, last_of}
use Rattle.logic_graph.specs.Live.{has_operand, reads_node, IsLive}
use Rattle.logic_graph.specs.Settled.{bit_of}
use Rattle.logic_graph.specs.declared.nodes.Node.{Node}
use Rattle.logic_graph.specs.declared.nodes.Node.TheVariants.{Zero, One, Input, Q, Not, Xor, And, Or, Mux}
use Rattle.logic_graph.specs.declared.graphs.Graph.{Graph}
use Rattle.secrecy_spread.specs.Levels.{depth_of}
use Rattle.secrecy_spread.specs.Naive.{takes_gadget, NaiveGadgets, naive_level, NaiveDepth}
use Rattle.secrecy_spread.specs.declared.secrets.Secrets.{Secrets}
use Rattle.share_wiring.proofs.Decide.{each_passes}
use Rattle.mode_examples.proofs.Tests.{all_by, each_node, node_passes}

-- ---- live nodes, from the last to the first

abbrev is_read : List Node → (k m : ℕ) → List Bool → Bool
is_read nodes k m [] = false
is_read nodes k m (b ∷ bs) = (b && reads_node nodes m k) || is_read nodes k (m + 1) bs

abbrev with_live : List Node → List ℕ → ℕ → List Bool → List Bool
with_live nodes sinks k rest = (list_any (λ s. s == k) sinks || is_read nodes k (k + 1) rest) ∷ rest

abbrev live_from : List Node → List ℕ → ℕ → List Node → List Bool
live_from nodes sinks k [] = []
live_from nodes sinks k (n ∷ ns) = with_live nodes sinks k (live_from nodes sinks (k + 1) ns)

abbrev pub live_nodes : List Node → List ℕ → List Bool
live_nodes nodes sinks = live_from nodes sinks 0 nodes

abbrev operands : Node → List ℕ
operands (Not a) = a ∷ []
operands (Xor a b) = a ∷ b ∷ []
operands (And a b) = a ∷ b ∷ []
operands (Or a b) = a ∷ b ∷ []
operands (Mux s a b) = s ∷ a ∷ b ∷ []
operands _ = []

one_of : (a j : ℕ) (rest : List ℕ) → IsTrue (a == j) → IsTrue (list_any (λ i. i == j) (a ∷ rest))
one_of a j rest h = or_left (a == j) (list_any (λ i. i == j) rest) h

of_rest : (a j : ℕ) (rest : List ℕ) → IsTrue (list_any (λ i. i == j) rest) → IsTrue (list_any (λ i. i == j) (a ∷ rest))
of_rest a j rest h = or_right (a == j) (list_any (λ i. i == j) rest) h

of_two : (a b j : ℕ) → IsTrue ((a == j) || (b == j)) → IsTrue (list_any (λ i. i == j) (a ∷ b ∷ []))
of_two a b j h = elim (or_cases (a == j) (b == j) h) [ inl one ↦ one_of a j (b ∷ []) one | inr other ↦ of_rest a j (b ∷ []) (one_of b j [] other) ]

among_operands : (j : ℕ) (n : Node) → IsTrue (has_operand j n) → IsTrue (list_any (λ i. i == j) (operands n))
among_operands j Zero h = absurd (let no : false ≡ true = h in cc)
among_operands j One h = absurd (let no : false ≡ true = h in cc)
among_operands j (Input i) h = absurd (let no : false ≡ true = h in cc)
among_operands j (Q r) h = absurd (let no : false ≡ true = h in cc)
among_operands j (Not a) h = one_of a j [] h
among_operands j (Xor a b) h = of_two a b j h
among_operands j (And a b) h = of_two a b j h
among_operands j (Or a b) h = of_two a b j h
among_operands j (Mux s a b) h = elim (or_cases (s == j) ((a == j) || (b == j)) h) [ inl one ↦ one_of s j (a ∷ b ∷ []) one | inr other ↦ of_rest s j (a ∷ b ∷ []) (of_two a b j other) ]

-- sinks are live, and operands of live nodes
abbrev passes_on : List Bool → ℕ → Node → Bool
passes_on live k n = not (bit_of live k) || list_all (bit_of live) (operands n)

abbrev has_readers : List Node → List Bool → ℕ → Bool
has_readers nodes live k = list_any (λ m. bit_of live m && reads_node nodes m k) (range_with_len (k + 1) (length nodes - (k + 1)))

-- a live node is one of a sink, or is read by a later live node
abbrev has_reason : List Node → List ℕ → List Bool → ℕ → Bool
has_reason nodes sinks live k = not (bit_of live k) || (list_any (λ s. s == k) sinks || has_readers nodes live k)

abbrev pub are_live : List Node → List ℕ → List Bool → Bool
are_live nodes sinks live =
    list_all (bit_of live) sinks && (each_node (passes_on live) nodes && list_all (has_reason nodes sinks live) (range_with_len 0 (length nodes)))

pub if_on : (a b : Bool) → IsTrue (not a || b) → IsTrue a → IsTrue b
if_on true b h on = h
if_on false b h on = absurd (let no : false ≡ true = on in cc)

live_step : (nodes : List Node) (live : List Bool) → IsTrue (each_node (passes_on live) nodes) → (i j : ℕ) → IsTrue (bit_of live i) → (o : Option Node) → slice_get nodes i ≡ o
    → IsTrue (option_map_or (has_operand j) o false) → IsTrue (bit_of live j)
live_step nodes live h i j on None at read = absurd (let no : false ≡ true = read in cc)
live_step nodes live h i j on (Some n) at read =
    let all = if_on (bit_of live i) (list_all (bit_of live) (operands n)) (node_passes (passes_on live) nodes h i n at) on in
    found_of_all (λ k. IsTrue (bit_of live k)) (operands n) (all_by (bit_of live) (operands n) all) j (among_operands j n read)

live_along : (nodes : List Node) (live : List Bool) → IsTrue (each_node (passes_on live) nodes) → (i : ℕ) (ks : List ℕ) → IsTrue (bit_of live i) → IsChain (reads_node nodes) i ks → IsTrue (bit_of live (last_of i ks))
live_along nodes live h i [] on chain = on
live_along nodes live h i (k ∷ ks) on chain = live_along nodes live h k ks (live_step nodes live h i k on (slice_get nodes i) refl chain.0) chain.1

chain_more : (related : ℕ → ℕ → Bool) (i : ℕ) (ks : List ℕ) (j : ℕ) → IsChain related i ks → IsTrue (related (last_of i ks) j) → IsChain related i (ks ++ j ∷ [])
chain_more related i [] j chain h = (h, tt)
chain_more related i (k ∷ ks) j chain h = (chain.0, chain_more related k ks j chain.1 h)

last_more : (i : ℕ) (ks : List ℕ) (j : ℕ) → last_of i (ks ++ j ∷ []) ≡ j
last_more i [] j = refl
last_more i (k ∷ ks) j = last_more k ks j

read_lives : (nodes : List Node) (sinks : List ℕ) (m k : ℕ) → IsLive nodes sinks m → IsTrue (reads_node nodes m k) → IsLive nodes sinks k
read_lives nodes sinks m k is read =
    (is.0, is.1 ++ k ∷ [], is.2, chain_more (reads_node nodes) is.0 is.1 k is.3 (subst (λ l. IsTrue (reads_node nodes l k)) (sym is.4) read), last_more is.0 is.1 k)

-- an item of a row of numbers is at least the first
item_at_least : (a n i m : ℕ) → slice_get (range_with_len a n) i ≡ Some m → a ≤ m
item_at_least a n i m at =
    let within = slice_get_within (range_with_len a n) i m at in
    let long = length-range_with_len a n in
    let is = get_or-range_with_len a n i 0 (omega (arith, within, long)) in
    let same = get_or_from_slice_get (range_with_len a n) i m 0 at in
    let e : m ≡ a + i = sym same ∙ is in omega (arith, e)

has_way : (nodes : List Node) (sinks : List ℕ) (live : List Bool) → IsTrue (list_all (has_reason nodes sinks live) (range_with_len 0 (length nodes))) → (left k : ℕ) → length nodes ≤ k + left → k < length nodes → IsTrue (bit_of live k) → IsLive nodes sinks k
has_way nodes sinks live h zero k low lt on = absurd (omega arith)
has_way nodes sinks live h (suc left) k low lt on =
    let reason = if_on (bit_of live k) (list_any (λ s. s == k) sinks || has_readers nodes live k) (each_passes (has_reason nodes sinks live) (length nodes) k h lt) on in
    elim (or_cases (list_any (λ s. s == k) sinks) (has_readers nodes live k) reason) [
      | inl sink ↦ (k, [], sink, tt, refl)
      | inr read ↦ (
          let found = place_of_any (λ m. bit_of live m && reads_node nodes m k) (range_with_len (k + 1) (length nodes - (k + 1))) read in
          let both = and_parts (bit_of live found.1) (reads_node nodes found.1 k) found.3 in
          let above = item_at_least (k + 1) (length nodes - (k + 1)) found.0 found.1 found.2 in
          let within = read_within nodes found.1 k (slice_get nodes found.1) refl both.1 in
          read_lives nodes sinks found.1 k (has_way nodes sinks live h left found.1 (omega (arith, above, low)) within both.0) both.1)
    ]
  where
    read_within : (nodes : List Node) (m k : ℕ) (o : Option Node) → slice_get nodes m ≡ o → IsTrue (option_map_or (has_operand k) o false) → m < length nodes
    read_within nodes m k None at h = absurd (let no : false ≡ true = h in cc)
    read_within nodes m k (Some n) at h = slice_get_within nodes m n at

pub tells_live : (nodes : List Node) (sinks : List ℕ) (live : List Bool) → IsTrue (are_live nodes sinks live) → (k : ℕ) → k < length nodes → IsTrue (bit_of live k) ↔ IsLive nodes sinks k
tells_live nodes sinks live h k lt =
    let first = list_all (bit_of live) sinks in
    let on = each_node (passes_on live) nodes in
    let reasons = list_all (has_reason nodes sinks live) (range_with_len 0 (length nodes)) in
    let one = and_parts first (on && reasons) h in
    let two = and_parts on reasons one.1 in (
      (λ flag. has_way nodes sinks live two.1 (length nodes) k (omega arith) lt flag),
      (λ is. subst (λ l. IsTrue (bit_of live l)) is.4 (live_along nodes live two.0 is.0 is.1 (found_of_all (λ s. IsTrue (bit_of live s)) sinks (all_by (bit_of live) sinks one.0) is.0 is.2) is.3)),
    )

-- ---- levels, one after another

abbrev levelled : (secret : ℕ → Bool) → List ℕ → List Node → List ℕ
levelled secret done [] = done
levelled secret done (n ∷ ns) = levelled secret (done ++ naive_level secret (λ j. slice_index_or done j 0) n ∷ []) ns

abbrev pub levels_of : Graph → Secrets → List ℕ
levels_of graph s = levelled (bit_of s.nodes) [] graph.nodes

abbrev is_level : Secrets → List ℕ → ℕ → Node → Bool
is_level s levels k n = slice_index_or levels k 0 == naive_level (bit_of s.nodes) (λ j. slice_index_or levels j 0) n

-- ---- both

abbrev gadgets_in : Graph → Secrets → List Bool → ℕ
gadgets_in graph s live = count_by (λ e. bit_of live e.0 && takes_gadget (bit_of s.nodes) e.1) (enumerate_from 0 graph.nodes)

abbrev pub takes_gadgets : Graph → Secrets → (live : List Bool) → ℕ → Bool
takes_gadgets graph s live gadgets = are_live graph.nodes graph.sinks live && (gadgets == gadgets_in graph s live)

pub naive_gadgets : (graph : Graph) (s : Secrets) (live : List Bool) (gadgets : ℕ) → IsTrue (takes_gadgets graph s live gadgets) → NaiveGadgets graph s gadgets
naive_gadgets graph s live gadgets h =
    let parts = and_parts (are_live graph.nodes graph.sinks live) (gadgets == gadgets_in graph s live) h in
    (bit_of live, tells_live graph.nodes graph.sinks live parts.0, eqb-true gadgets (gadgets_in graph s live) parts.1)

abbrev depth_in : Graph → Secrets → List ℕ → ℕ
depth_in graph s levels = depth_of (bit_of s.nodes) (λ k. slice_index_or levels k 0) graph.sinks

abbrev pub has_depth : Graph → Secrets → (levels : List ℕ) → ℕ → Bool
has_depth graph s levels depth = each_node (is_level s levels) graph.nodes && (depth == depth_in graph s levels)

pub naive_depth : (graph : Graph) (s : Secrets) (levels : List ℕ) (depth : ℕ) → IsTrue (has_depth graph s levels depth) → NaiveDepth graph s depth
naive_depth graph s levels depth h =
    let parts = and_parts (each_node (is_level s levels) graph.nodes) (depth == depth_in graph s levels) h in
    let level : ℕ → ℕ = λ k. slice_index_or levels k 0 in (
      level,
      (λ k n at. eqb-true (level k) (naive_level (bit_of s.nodes) level n) (node_passes (is_level s levels) graph.nodes parts.0 k n at)),
      eqb-true depth (depth_in graph s levels) parts.1,
    )
