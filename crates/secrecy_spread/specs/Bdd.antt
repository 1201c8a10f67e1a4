-- The mode of decision diagrams: each root is a function of the members of its cut, as a tree of choices by variables in their order, in
-- which no choice is between equals. Equal trees are one.
use Rattle.std.specs.Prelude.{◌≡◌, ◌==◌, ◌++◌, ◌↔◌, ℕ, Bool, true, false, not, ◌&&◌, ◌||◌, cond, List, [], ◌∷◌, length, map, filter, max, Some, slice_get, IsTrue}
use Rattle.std.specs.List.{flat_map, list_any}
use Rattle.agm_net.specs.Formula.{xor}
use Rattle.logic_graph.specs.declared.nodes.Node.{Node}
use Rattle.logic_graph.specs.declared.nodes.Node.TheVariants.{Zero, One, Input, Q, Not, Xor, And, Or, Mux}
use Rattle.logic_graph.specs.declared.graphs.Graph.{Graph}
use Rattle.logic_graph.specs.Settled.{bit_of}
use Rattle.logic_graph.specs.Cuts.{TellsCuts, IsRoot}
use Rattle.secrecy_spread.specs.declared.secrets.Secrets.{Secrets}
use Rattle.secrecy_spread.specs.Levels.{product_level, greatest}

-- a constant, or the choice by a variable, which is a node, of the first tree where it is 0, else of the second
pub data Tree : Type 0 where
  leaf : Bool → Tree
  choice : ℕ → Tree → Tree → Tree

abbrev pub same_tree : Tree → Tree → Bool
same_tree (leaf a) (leaf b) = not (xor a b)
same_tree (choice v a b) (choice w c d) = (v == w) && (same_tree a c && same_tree b d)
same_tree _ _ = false

abbrev pub chosen : ℕ → Tree → Tree → Tree
chosen v low high = cond (same_tree low high) low (choice v low high)

-- an assignment of bits to nodes, changed at one
abbrev pub assigned : (ℕ → Bool) → ℕ → Bool → ℕ → Bool
assigned x v b w = cond (v == w) b (x w)

-- the tree of a function of variables in their order
abbrev pub tree_of : ((ℕ → Bool) → Bool) → List ℕ → (ℕ → Bool) → Tree
tree_of f [] x = leaf (f x)
tree_of f (v ∷ vs) x = chosen v (tree_of f vs (assigned x v false)) (tree_of f vs (assigned x v true))

-- the value of a node by those of its operands; a source is given
abbrev pub gate_value : (at : ℕ → Bool) → Node → Bool
gate_value at Zero = false
gate_value at One = true
gate_value at (Input i) = false
gate_value at (Q r) = false
gate_value at (Not a) = not (at a)
gate_value at (Xor a b) = xor (at a) (at b)
gate_value at (And a b) = at a && at b
gate_value at (Or a b) = at a || at b
gate_value at (Mux s a b) = cond (at s) (at b) (at a)

-- The values of nodes over a cut: a member has the bit that is assigned to it, and every other node that of its operator. So on each way
-- down from a root the evaluation stops at the first member.
abbrev pub TellsValues : Graph → (cut : List ℕ) → (value : (ℕ → Bool) → ℕ → Bool) → Type 0
TellsValues graph cut value =
    (x : ℕ → Bool) (k : ℕ) (n : Node) → slice_get graph.nodes k ≡ Some n → value x k ≡ cond (list_any (λ v. v == k) cut) (x k) (gate_value (value x) n)

-- `tree k` is the tree of root k
abbrev pub TellsTrees : Graph → (cut : ℕ → List ℕ) → (tree : ℕ → Tree) → Type 0
TellsTrees graph cut tree =
    (k : ℕ) → IsRoot graph cut k → (value : (ℕ → Bool) → ℕ → Bool) × TellsValues graph (cut k) value × (tree k ≡ tree_of (λ x. value x k) (cut k) (λ v. false))

abbrev pub subtrees : Tree → List Tree
subtrees (leaf b) = leaf b ∷ []
subtrees (choice v a b) = choice v a b ∷ (subtrees a ++ subtrees b)

abbrev pub distinct_trees : List Tree → List Tree
distinct_trees [] = []
distinct_trees (t ∷ ts) = cond (list_any (same_tree t) ts) (distinct_trees ts) (t ∷ distinct_trees ts)

-- whether a tree is secret: whether it depends on a secret variable
abbrev pub is_secret_tree : (secret : ℕ → Bool) → Tree → Bool
is_secret_tree secret (leaf b) = false
is_secret_tree secret (choice v a b) = secret v || (is_secret_tree secret a || is_secret_tree secret b)

-- the variables of a tree, and its value for an assignment
abbrev pub variables : Tree → List ℕ
variables (leaf b) = []
variables (choice v a b) = v ∷ (variables a ++ variables b)

abbrev pub tree_value : (ℕ → Bool) → Tree → Bool
tree_value x (leaf b) = b
tree_value x (choice v a b) = cond (x v) (tree_value x b) (tree_value x a)

-- whether the exclusive or of two trees over the variables of a cut depends on a secret variable
abbrev pub do_differ : (secret : ℕ → Bool) → (cut : List ℕ) → Tree → Tree → Bool
do_differ secret cut a b = is_secret_tree secret (tree_of (λ x. xor (tree_value x a) (tree_value x b)) cut (λ v. false))

-- a choice by a secret variable takes a gadget where the exclusive or of its branches is secret
abbrev pub is_gadget_tree : (secret : ℕ → Bool) → (cut : List ℕ) → Tree → Bool
is_gadget_tree secret cut (leaf b) = false
is_gadget_tree secret cut (choice v a b) = secret v && do_differ secret cut a b

abbrev pub gadget_trees : (secret : ℕ → Bool) → (cut : List ℕ) → Tree → List Tree
gadget_trees secret cut t = filter (is_gadget_tree secret cut) (subtrees t)

-- the roots of a graph, their cuts and trees
pub record Trees (graph : Graph) : Type 0 where
  pub cut : ℕ → List ℕ
  pub cuts : TellsCuts graph cut
  pub roots : List ℕ
  pub are_roots : (k : ℕ) → IsTrue (list_any (λ r. r == k) roots) ↔ IsRoot graph cut k
  pub tree : ℕ → Tree
  pub trees : TellsTrees graph cut tree

-- How many distinct subtrees of roots take a gadget. A variable that is an operator is secret exactly where its expression is.
abbrev pub BddGadgets : Graph → Secrets → ℕ → Type 0
BddGadgets graph s n =
    (t : Trees graph) × (n ≡ length (distinct_trees (flat_map (λ k. gadget_trees (bit_of s.nodes) (t.cut k) (t.tree k)) t.roots)))

-- The level of a tree, where variable v has the level `level v`: a choice is low ^ (v & (high ^ low)), and the exclusive or of branches has
-- level 0 where it is public, else the greater level of the two.
abbrev pub tree_level : (secret : ℕ → Bool) → (cut : List ℕ) → (level : ℕ → ℕ) → Tree → ℕ
tree_level secret cut level (leaf b) = 0
tree_level secret cut level (choice v a b) =
    max (tree_level secret cut level a)
    (product_level (secret v) (do_differ secret cut a b) (level v) (cond (do_differ secret cut a b) (max (tree_level secret cut level a) (tree_level secret cut level b)) 0))

-- the greatest level of a sink; a root has the level of its tree, and a source or constant level 0
abbrev pub BddDepth : Graph → Secrets → ℕ → Type 0
BddDepth graph s n =
    (t : Trees graph) × (level : ℕ → ℕ)
    × ((k : ℕ) → level k ≡ cond (list_any (λ r. r == k) t.roots) (tree_level (bit_of s.nodes) (t.cut k) level (t.tree k)) 0)
    × (n ≡ greatest (map level graph.sinks))
