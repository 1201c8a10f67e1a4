-- What is told of each node by its operands is told of some way.
use Rattle.std.proofs.Common.{◌≡◌, ◌<◌, ◌&&◌, ◌||◌, ℕ, zero, suc, Bool, not, cond, List, length, slice_get, get_or, Some, IsTrue, nat_lt, ltb-true, refl, ap, ap₂, ◌∙◌, arith}
use Rattle.std.proofs.lemmas.Bool.{and_parts}
use Rattle.std.proofs.lemmas.Option.{slice_get-get_or, slice_get_within, get_or_from_slice_get}
use Rattle.agm_net.specs.Formula.{xor}
use Rattle.logic_graph.specs.declared.nodes.Node.{Node}
use Rattle.logic_graph.specs.declared.nodes.Node.TheVariants.{Zero, One, Input, Q, Not, Xor, And, Or, Mux}
use Rattle.logic_graph.specs.Nodes.{reads_before}
use Rattle.secrecy_spread.specs.Aig.{inverse, product, node_term}
use Rattle.secrecy_spread.specs.Bdd.{gate_value}

-- a node says the same where its operands do
abbrev pub IsLocal : {V : Type 0} → ((ℕ → V) → ℕ → Node → V) → Type 0
IsLocal {V} F = (x y : ℕ → V) (k : ℕ) (n : Node) → IsTrue (reads_before k n) → ((j : ℕ) → j < k → x j ≡ y j) → F x k n ≡ F y k n

-- two operands, of which a node says `f`
two : {V W : Type 0} (f : V → V → W) (x y : ℕ → V) (k a b : ℕ) → IsTrue (nat_lt a k && nat_lt b k) → ((j : ℕ) → j < k → x j ≡ y j) → f (x a) (x b) ≡ f (y a) (y b)
two f x y k a b h same = let both = and_parts (nat_lt a k) (nat_lt b k) h in ap₂ f (same a (ltb-true a k both.0)) (same b (ltb-true b k both.1))

three : {V W : Type 0} (f : V → V → V → W) (x y : ℕ → V) (k s a b : ℕ) → IsTrue (nat_lt s k && (nat_lt a k && nat_lt b k)) → ((j : ℕ) → j < k → x j ≡ y j) → f (x s) (x a) (x b) ≡ f (y s) (y a) (y b)
three f x y k s a b h same =
    let all = and_parts (nat_lt s k) (nat_lt a k && nat_lt b k) h in
    two (f (x s)) x y k a b all.1 same ∙ ap (λ t. f t (y a) (y b)) (same s (ltb-true s k all.0))

pub term_local : IsLocal (λ at k n. node_term at n)
term_local x y k Zero h same = refl
term_local x y k One h same = refl
term_local x y k (Input i) h same = refl
term_local x y k (Q r) h same = refl
term_local x y k (Not a) h same = ap inverse (same a (ltb-true a k h))
term_local x y k (Xor a b) h same = two (λ p q. inverse (product (inverse (product p (inverse q))) (inverse (product (inverse p) q)))) x y k a b h same
term_local x y k (And a b) h same = two product x y k a b h same
term_local x y k (Or a b) h same = two (λ p q. inverse (product (inverse p) (inverse q))) x y k a b h same
term_local x y k (Mux s a b) h same = three (λ t p q. inverse (product (inverse (product t q)) (inverse (product (inverse t) p)))) x y k s a b h same

value_local : (x y : ℕ → Bool) (k : ℕ) (n : Node) → IsTrue (reads_before k n) → ((j : ℕ) → j < k → x j ≡ y j) → gate_value x n ≡ gate_value y n
value_local x y k Zero h same = refl
value_local x y k One h same = refl
value_local x y k (Input i) h same = refl
value_local x y k (Q r) h same = refl
value_local x y k (Not a) h same = ap not (same a (ltb-true a k h))
value_local x y k (Xor a b) h same = two xor x y k a b h same
value_local x y k (And a b) h same = two (λ p q. p && q) x y k a b h same
value_local x y k (Or a b) h same = two (λ p q. p || q) x y k a b h same
value_local x y k (Mux s a b) h same = three (λ t p q. cond t q p) x y k s a b h same

-- the value of a node, where some nodes have the bits that are assigned to them
pub cut_local : (among : ℕ → Bool) (assigned : ℕ → Bool) → IsLocal (λ at k n. cond (among k) (assigned k) (gate_value at n))
cut_local among assigned x y k n h same = ap (cond (among k) (assigned k)) (value_local x y k n h same)

module _ {V : Type 0} (d : V) (F : (ℕ → V) → ℕ → Node → V) (nodes : List Node) where
  abbrev pub rounds : ℕ → ℕ → V
  rounds zero k = d
  rounds (suc m) k = F (rounds m) k (get_or nodes k Zero)

  abbrev pub told : ℕ → V
  told = rounds (length nodes)

  module _ (is_local : IsLocal F) (order : (k : ℕ) (n : Node) → slice_get nodes k ≡ Some n → IsTrue (reads_before k n)) where
    still : (m k : ℕ) → k < m → k < length nodes → rounds m k ≡ rounds (suc m) k
    still zero k lt within = absurd (omega arith)
    still (suc m) k lt within =
        let n = get_or nodes k Zero in
        is_local (rounds m) (rounds (suc m)) k n (order k n (slice_get-get_or nodes k Zero within)) (λ j lj. still m j (omega arith) (omega arith))

    pub is_told : (k : ℕ) (n : Node) → slice_get nodes k ≡ Some n → told k ≡ F told k n
    is_told k n at =
        let within = slice_get_within nodes k n at in
        still (length nodes) k within within ∙ ap (F told k) (get_or_from_slice_get nodes k n Zero at)
