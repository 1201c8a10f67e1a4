-- Cuts and roots: which operators the mode of decision diagrams takes as functions of which variables.
use Rattle.std.specs.Prelude.{◌≡◌, ◌==◌, ℕ, Bool, true, false, ◌&&◌, ◌||◌, cond, List, [], ◌∷◌, length, nat_lt, nat_le, Some, slice_get, slice_index_or, IsTrue}
use Rattle.std.specs.List.{list_any}
use Rattle.std.specs.Option.{option_map_or}
use Rattle.agm_net.specs.Loop.{IsChain, last_of}
use Rattle.logic_graph.specs.declared.nodes.Node.{Node}
use Rattle.logic_graph.specs.declared.nodes.Node.TheVariants.{Zero, One, Input, Q, Not, Xor, And, Or, Mux}
use Rattle.logic_graph.specs.declared.graphs.Graph.{Graph}
use Rattle.logic_graph.specs.Nodes.{is_operator}

-- the place of a node among variables: input bits first, then registers, then operators by their numbers
abbrev pub variable_place : ℕ → Node → ℕ × ℕ
variable_place number (Input i) = (0, i)
variable_place number (Q r) = (1, r)
variable_place number _ = (2, number)

abbrev pub is_earlier : ℕ × ℕ → ℕ × ℕ → Bool
is_earlier p q = nat_lt p.0 q.0 || ((p.0 == q.0) && nat_lt p.1 q.1)

abbrev pub place_in : Graph → ℕ → ℕ × ℕ
place_in graph k = variable_place (slice_index_or graph.numbers k 0) (slice_index_or graph.nodes k Zero)

-- a set of nodes, in the order of variables
abbrev pub with_variable : Graph → ℕ → List ℕ → List ℕ
with_variable graph k [] = k ∷ []
with_variable graph k (v ∷ vs) = cond (k == v) (v ∷ vs) (cond (is_earlier (place_in graph k) (place_in graph v)) (k ∷ v ∷ vs) (v ∷ with_variable graph k vs))

abbrev pub joined : Graph → List ℕ → List ℕ → List ℕ
joined graph [] ys = ys
joined graph (x ∷ xs) ys = with_variable graph x (joined graph xs ys)

-- the set of a node that is no constant
abbrev pub is_constant : Node → Bool
is_constant Zero = true
is_constant One = true
is_constant _ = false

abbrev pub alone : Graph → ℕ → List ℕ
alone graph k = cond (is_constant (slice_index_or graph.nodes k Zero)) [] (k ∷ [])

-- a cut of ten members at most, else the operands
abbrev pub ten_or : List ℕ → List ℕ → List ℕ
ten_or cut operands = cond (nat_le (length cut) 10) cut operands

-- The cut of node k, where node j has the cut `at j`: that of a constant is empty, and that of a source is the source. That of an operator
-- is the union of its operands' cuts, if it has ten members at most; else it is the set of its operands, without constants.
abbrev pub node_cut : Graph → (at : ℕ → List ℕ) → ℕ → Node → List ℕ
node_cut graph at k Zero = []
node_cut graph at k One = []
node_cut graph at k (Input i) = k ∷ []
node_cut graph at k (Q r) = k ∷ []
node_cut graph at k (Not a) = ten_or (at a) (alone graph a)
node_cut graph at k (Xor a b) = ten_or (joined graph (at a) (at b)) (joined graph (alone graph a) (alone graph b))
node_cut graph at k (And a b) = ten_or (joined graph (at a) (at b)) (joined graph (alone graph a) (alone graph b))
node_cut graph at k (Or a b) = ten_or (joined graph (at a) (at b)) (joined graph (alone graph a) (alone graph b))
node_cut graph at k (Mux s a b) =
    ten_or (joined graph (at s) (joined graph (at a) (at b))) (joined graph (alone graph s) (joined graph (alone graph a) (alone graph b)))

abbrev pub TellsCuts : Graph → (cut : ℕ → List ℕ) → Type 0
TellsCuts graph cut = (k : ℕ) (n : Node) → slice_get graph.nodes k ≡ Some n → cut k ≡ node_cut graph cut k n

abbrev pub is_operator_at : Graph → ℕ → Bool
is_operator_at graph k = option_map_or is_operator (slice_get graph.nodes k) false

-- Each operator at which a sink stands is a root, and each operator in the cut of a root. The list stands here from the root back to the
-- sink.
abbrev pub IsRoot : Graph → (cut : ℕ → List ℕ) → ℕ → Type 0
IsRoot graph cut k =
    (ks : List ℕ) × IsTrue (is_operator_at graph k) × IsChain (λ i j. is_operator_at graph j && list_any (λ v. v == i) (cut j)) k ks
    × IsTrue (list_any (λ s. s == last_of k ks) graph.sinks)
