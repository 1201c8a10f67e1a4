-- The mode of products and inversions: each sink is a term of constant 0, sources, inversions and products, in which equal products are
-- one. Two inversions cancel. A product with 0 is 0, with 1 the other factor, of equal factors the factor, and of opposite factors 0.
use Rattle.std.specs.Prelude.{◌≡◌, ◌==◌, ◌++◌, ℕ, Bool, true, false, ◌&&◌, ◌||◌, cond, List, [], ◌∷◌, length, map, Some, slice_get}
use Rattle.std.specs.List.{flat_map, list_any}
use Rattle.logic_graph.specs.declared.nodes.Node.{Node}
use Rattle.logic_graph.specs.declared.nodes.Node.TheVariants.{Zero, One, Input, Q, Not, Xor, And, Or, Mux}
use Rattle.logic_graph.specs.declared.graphs.Graph.{Graph}
use Rattle.logic_graph.specs.Settled.{bit_of}
use Rattle.secrecy_spread.specs.declared.secrets.Secrets.{Secrets}
use Rattle.secrecy_spread.specs.Levels.{product_level, greatest}

pub data Term : Type 0 where
  t_zero : Term
  t_input : ℕ → Term
  t_register : ℕ → Term
  t_not : Term → Term
  t_and : Term → Term → Term

-- two products are the same when their factors are, up to exchange
abbrev pub same_term : Term → Term → Bool
same_term t_zero t_zero = true
same_term (t_input i) (t_input j) = i == j
same_term (t_register i) (t_register j) = i == j
same_term (t_not x) (t_not y) = same_term x y
same_term (t_and a b) (t_and c d) = (same_term a c && same_term b d) || (same_term a d && same_term b c)
same_term _ _ = false

abbrev pub inverse : Term → Term
inverse (t_not x) = x
inverse x = t_not x

abbrev pub product : Term → Term → Term
product x y =
    cond (same_term x t_zero || (same_term y t_zero || same_term x (inverse y))) t_zero
    (cond (same_term x (t_not t_zero) || same_term x y) y (cond (same_term y (t_not t_zero)) x (t_and x y)))

-- the term of a node, where node k has the term `at k`
abbrev pub node_term : (ℕ → Term) → Node → Term
node_term at Zero = t_zero
node_term at One = t_not t_zero
node_term at (Input i) = t_input i
node_term at (Q r) = t_register r
node_term at (Not a) = inverse (at a)
node_term at (And a b) = product (at a) (at b)
node_term at (Or a b) = inverse (product (inverse (at a)) (inverse (at b)))
node_term at (Xor a b) = inverse (product (inverse (product (at a) (inverse (at b)))) (inverse (product (inverse (at a)) (at b))))
node_term at (Mux s a b) = inverse (product (inverse (product (at s) (at b))) (inverse (product (inverse (at s)) (at a))))

abbrev pub TellsTerms : Graph → (ℕ → Term) → Type 0
TellsTerms graph term = (k : ℕ) (n : Node) → slice_get graph.nodes k ≡ Some n → term k ≡ node_term term n

-- a term is secret when a secret source stands in it
abbrev pub is_secret_term : Secrets → Term → Bool
is_secret_term s t_zero = false
is_secret_term s (t_input i) = bit_of s.inputs i
is_secret_term s (t_register r) = bit_of s.registers r
is_secret_term s (t_not x) = is_secret_term s x
is_secret_term s (t_and x y) = is_secret_term s x || is_secret_term s y

-- the products of two secret factors in a term, each as often as it stands there
abbrev pub secret_products : Secrets → Term → List Term
secret_products s t_zero = []
secret_products s (t_input i) = []
secret_products s (t_register r) = []
secret_products s (t_not x) = secret_products s x
secret_products s (t_and x y) =
    secret_products s x ++ (secret_products s y ++ cond (is_secret_term s x && is_secret_term s y) (t_and x y ∷ []) [])

-- those that are not the same as a later one
abbrev pub distinct : List Term → List Term
distinct [] = []
distinct (x ∷ xs) = cond (list_any (same_term x) xs) (distinct xs) (x ∷ distinct xs)

-- how many distinct products of two secret factors stand in the terms of all sinks
abbrev pub AigGadgets : Graph → Secrets → ℕ → Type 0
AigGadgets graph s n =
    (term : ℕ → Term) × TellsTerms graph term × (n ≡ length (distinct (flat_map (λ k. secret_products s (term k)) graph.sinks)))

abbrev pub term_level : Secrets → Term → ℕ
term_level s t_zero = 0
term_level s (t_input i) = 0
term_level s (t_register r) = 0
term_level s (t_not x) = term_level s x
term_level s (t_and x y) = product_level (is_secret_term s x) (is_secret_term s y) (term_level s x) (term_level s y)

-- The greatest level of a sink. A sink whose term has lost its secrets has level 0, as all that is public.
abbrev pub AigDepth : Graph → Secrets → ℕ → Type 0
AigDepth graph s n = (term : ℕ → Term) × TellsTerms graph term × (n ≡ greatest (map (λ k. term_level s (term k)) graph.sinks))
