-- What stands for a node has its value, its secrecy and its level.
use Rattle.std.proofs.Common.{◌≡◌, ◌<◌, ◌+◌, ◌==◌, ℕ, zero, suc, Bool, true, false, not, cond, ◌&&◌, ◌||◌, max, List, length, slice_get, get_or, Some, IsTrue, refl, sym, ap, ap₂, ◌∙◌, arith}
use Rattle.std.proofs.lemmas.Bool.{or_left, or_right}
use Rattle.std.proofs.lemmas.Option.{slice_get-get_or, slice_get_within, get_or_from_slice_get}
use Rattle.agm_net.specs.Formula.{xor}
use Rattle.logic_graph.specs.declared.nodes.Node.{Node}
use Rattle.logic_graph.specs.declared.nodes.Node.TheVariants.{Zero, One, Input, Q, Not, Xor, And, Or, Mux}
use Rattle.logic_graph.specs.declared.nodes.XanNode.{XanNode}
use Rattle.logic_graph.specs.declared.nodes.XanNode.TheVariants as xan
use Rattle.logic_graph.specs.Live.{has_operand}
use Rattle.logic_graph.specs.Machines.{Solves}
use Rattle.logic_graph.specs.Nodes.{reads_before}
use Rattle.logic_graph.specs.Settled.{node_value}
use Rattle.secrecy_spread.specs.declared.secrets.Secrets.{Secrets}
use Rattle.secrecy_spread.specs.NodeSecrets.{is_secret, TellsNodes}
use Rattle.secrecy_spread.specs.Levels.{product_level, TellsLevels}
use Rattle.secrecy_spread.specs.Naive.{naive_level, takes_gadget}
use Rattle.naive_mode.proofs.Marking.{operand_before}
use Rattle.naive_mode.proofs.Standing.{HasRow, single, sum_row, choice_row, is_operand, left_operand, right_operand}

-- a node says the same where its operands do
abbrev pub IsLocal : {V W : Type 0} → ((ℕ → V) → Node → W) → Type 0
IsLocal {V} {W} F = (x y : ℕ → V) (n : Node) → ((j : ℕ) → IsTrue (has_operand j n) → x j ≡ y j) → F x n ≡ F y n

test_of : {V : Type 0} (x y : ℕ → V) (s a b : ℕ) → ((j : ℕ) → IsTrue (has_operand j (Mux s a b)) → x j ≡ y j) → x s ≡ y s
test_of x y s a b same = same s (or_left (s == s) ((a == s) || (b == s)) (is_operand s))

low_of : {V : Type 0} (x y : ℕ → V) (s a b : ℕ) → ((j : ℕ) → IsTrue (has_operand j (Mux s a b)) → x j ≡ y j) → x a ≡ y a
low_of x y s a b same = same a (or_right (s == a) ((a == a) || (b == a)) (left_operand a b))

high_of : {V : Type 0} (x y : ℕ → V) (s a b : ℕ) → ((j : ℕ) → IsTrue (has_operand j (Mux s a b)) → x j ≡ y j) → x b ≡ y b
high_of x y s a b same = same b (or_right (s == b) ((a == b) || (b == b)) (right_operand a b))

pub value_local : (inputs registers : ℕ → Bool) → IsLocal (node_value inputs registers)
value_local i r x y Zero same = refl
value_local i r x y One same = refl
value_local i r x y (Input b) same = refl
value_local i r x y (Q b) same = refl
value_local i r x y (Not a) same = ap not (same a (is_operand a))
value_local i r x y (Xor a b) same = ap₂ xor (same a (left_operand a b)) (same b (right_operand a b))
value_local i r x y (And a b) same = ap₂ (λ p q. p && q) (same a (left_operand a b)) (same b (right_operand a b))
value_local i r x y (Or a b) same = ap₂ (λ p q. p || q) (same a (left_operand a b)) (same b (right_operand a b))
value_local i r x y (Mux s a b) same =
    ap₂ (λ p q. cond (x s) p q) (high_of x y s a b same) (low_of x y s a b same) ∙ ap (λ t. cond t (y b) (y a)) (test_of x y s a b same)

pub secret_local : (inputs registers : List Bool) → IsLocal (is_secret inputs registers)
secret_local i r x y Zero same = refl
secret_local i r x y One same = refl
secret_local i r x y (Input b) same = refl
secret_local i r x y (Q b) same = refl
secret_local i r x y (Not a) same = same a (is_operand a)
secret_local i r x y (Xor a b) same = ap₂ (λ p q. p || q) (same a (left_operand a b)) (same b (right_operand a b))
secret_local i r x y (And a b) same = ap₂ (λ p q. p || q) (same a (left_operand a b)) (same b (right_operand a b))
secret_local i r x y (Or a b) same = ap₂ (λ p q. p || q) (same a (left_operand a b)) (same b (right_operand a b))
secret_local i r x y (Mux s a b) same =
    ap₂ (λ p q. x s || (p || q)) (low_of x y s a b same) (high_of x y s a b same) ∙ ap (λ t. t || (y a || y b)) (test_of x y s a b same)

pub level_local : (secret : ℕ → Bool) → IsLocal (naive_level secret)
level_local s x y Zero same = refl
level_local s x y One same = refl
level_local s x y (Input b) same = refl
level_local s x y (Q b) same = refl
level_local s x y (Not a) same = same a (is_operand a)
level_local s x y (Xor a b) same = ap₂ max (same a (left_operand a b)) (same b (right_operand a b))
level_local s x y (And a b) same = ap₂ (product_level (s a) (s b)) (same a (left_operand a b)) (same b (right_operand a b))
level_local s x y (Or a b) same = ap₂ (product_level (s a) (s b)) (same a (left_operand a b)) (same b (right_operand a b))
level_local s x y (Mux c a b) same =
    ap₂ (λ p q. max p (product_level (s c) (s a || s b) (x c) (max p q))) (low_of x y c a b same) (high_of x y c a b same)
    ∙ ap (λ t. max (y a) (product_level (s c) (s a || s b) t (max (y a) (y b)))) (test_of x y c a b same)

pub level_of_secret : (level : ℕ → ℕ) → IsLocal (λ secret n. naive_level secret level n)
level_of_secret l x y Zero same = refl
level_of_secret l x y One same = refl
level_of_secret l x y (Input b) same = refl
level_of_secret l x y (Q b) same = refl
level_of_secret l x y (Not a) same = refl
level_of_secret l x y (Xor a b) same = refl
level_of_secret l x y (And a b) same = ap₂ (λ p q. product_level p q (l a) (l b)) (same a (left_operand a b)) (same b (right_operand a b))
level_of_secret l x y (Or a b) same = ap₂ (λ p q. product_level p q (l a) (l b)) (same a (left_operand a b)) (same b (right_operand a b))
level_of_secret l x y (Mux c a b) same =
    ap₂ (λ p q. max (l a) (product_level (x c) (p || q) (l c) (max (l a) (l b)))) (low_of x y c a b same) (high_of x y c a b same)
    ∙ ap (λ t. max (l a) (product_level t (y a || y b) (l c) (max (l a) (l b)))) (test_of x y c a b same)

pub gadget_local : IsLocal takes_gadget
gadget_local x y Zero same = refl
gadget_local x y One same = refl
gadget_local x y (Input b) same = refl
gadget_local x y (Q b) same = refl
gadget_local x y (Not a) same = refl
gadget_local x y (Xor a b) same = refl
gadget_local x y (And a b) same = ap₂ (λ p q. p && q) (same a (left_operand a b)) (same b (right_operand a b))
gadget_local x y (Or a b) same = ap₂ (λ p q. p && q) (same a (left_operand a b)) (same b (right_operand a b))
gadget_local x y (Mux s a b) same =
    ap₂ (λ p q. x s && (p || q)) (low_of x y s a b same) (high_of x y s a b same) ∙ ap (λ t. t && (y a || y b)) (test_of x y s a b same)

-- What is told of a row as of its node is told of each live node.
pub carried : {V : Type 0} (F : (ℕ → V) → Node → V) → IsLocal F → (nodes : List Node) (live : ℕ → Bool) (p : ℕ → ℕ) (x y : ℕ → V)
    → ((k : ℕ) (n : Node) → slice_get nodes k ≡ Some n → IsTrue (live k) → (a : ℕ) → IsTrue (has_operand a n) → (a < k) × IsTrue (live a))
    → ((k : ℕ) (n : Node) → slice_get nodes k ≡ Some n → IsTrue (live k) → x (p k) ≡ F (λ j. x (p j)) n)
    → ((k : ℕ) (n : Node) → slice_get nodes k ≡ Some n → y k ≡ F y n)
    → (m k : ℕ) → k < m → k < length nodes → IsTrue (live k) → x (p k) ≡ y k
carried F is_local nodes live p x y ops rows own zero k lt within on = absurd (omega arith)
carried F is_local nodes live p x y ops rows own (suc m) k lt within on =
    let n = get_or nodes k Zero in
    let at = slice_get-get_or nodes k Zero within in
    rows k n at on
    ∙ (is_local (λ j. x (p j)) y n (λ a h. (
    let o = ops k n at on a h in
    let lower = o.0 in carried F is_local nodes live p x y ops rows own m a (omega arith) (omega arith) o.1))
    ∙ sym (own k n at))

-- What is told of each node by its operands is told of some way.
module _ {V : Type 0} (d : V) (F : (ℕ → V) → Node → V) (is_local : IsLocal F) (nodes : List Node) (order : (k : ℕ) (n : Node) → slice_get nodes k ≡ Some n → IsTrue (reads_before k n)) where
  abbrev rounds : ℕ → ℕ → V
  rounds zero k = d
  rounds (suc m) k = F (rounds m) (get_or nodes k Zero)

  still : (m k : ℕ) → k < m → k < length nodes → rounds m k ≡ rounds (suc m) k
  still zero k lt within = absurd (omega arith)
  still (suc m) k lt within =
      let n = get_or nodes k Zero in
      is_local (rounds m) (rounds (suc m)) n (λ j h. (
      let lower = operand_before k n j (order k n (slice_get-get_or nodes k Zero within)) h in still m j (omega arith) (omega arith)))

  abbrev pub told : ℕ → V
  told = rounds (length nodes)

  pub is_told : (k : ℕ) (n : Node) → slice_get nodes k ≡ Some n → told k ≡ F told n
  is_told k n at =
      let within = slice_get_within nodes k n at in
      still (length nodes) k within within ∙ ap (F told) (get_or_from_slice_get nodes k n Zero at)

inverted : (x y : Bool) → not (not x && not y) ≡ (x || y)
inverted true true = refl
inverted true false = refl
inverted false true = refl
inverted false false = refl

chosen : (s x y : Bool) → xor x (s && xor x y) ≡ cond s y x
chosen true true true = refl
chosen true true false = refl
chosen true false true = refl
chosen true false false = refl
chosen false true y = refl
chosen false false y = refl

absorbed : (s x y : Bool) → (x || (s || (x || y))) ≡ (s || (x || y))
absorbed true true y = refl
absorbed true false y = refl
absorbed false true y = refl
absorbed false false y = refl

pub value_row : (every : List XanNode) (inputs registers at : ℕ → Bool) → Solves every inputs registers at → (p : ℕ → ℕ) (b k : ℕ) (n : Node) → HasRow every p b k n → at k ≡ node_value inputs registers (λ j. at (p j)) n
value_row every i r at s p b k Zero h = s k xan.Zero (single every p b k Zero xan.Zero refl h)
value_row every i r at s p b k One h = s k xan.One (single every p b k One xan.One refl h)
value_row every i r at s p b k (Input c) h = s k (xan.Input c) (single every p b k (Input c) (xan.Input c) refl h)
value_row every i r at s p b k (Q c) h = s k (xan.Q c) (single every p b k (Q c) (xan.Q c) refl h)
value_row every i r at s p b k (Not x) h = s k (xan.Not (p x)) (single every p b k (Not x) (xan.Not (p x)) refl h)
value_row every i r at s p b k (Xor x y) h = s k (xan.Xor (p x) (p y)) (single every p b k (Xor x y) (xan.Xor (p x) (p y)) refl h)
value_row every i r at s p b k (And x y) h = s k (xan.And (p x) (p y)) (single every p b k (And x y) (xan.And (p x) (p y)) refl h)
value_row every i r at s p b k (Or x y) h =
    let o = sum_row every p b k x y h in
    s k (xan.Not (b + 2)) o.3
    ∙ (ap not (s (b + 2) (xan.And b (b + 1)) o.2 ∙ ap₂ (λ u v. u && v) (s b (xan.Not (p x)) o.0) (s (b + 1) (xan.Not (p y)) o.1))
    ∙ inverted (at (p x)) (at (p y)))
value_row every i r at s p b k (Mux c x y) h =
    let o = choice_row every p b k c x y h in
    s k (xan.Xor (p x) (b + 1)) o.2
    ∙ (ap (xor (at (p x))) (s (b + 1) (xan.And (p c) b) o.1 ∙ ap (λ v. at (p c) && v) (s b (xan.Xor (p x) (p y)) o.0))
    ∙ chosen (at (p c)) (at (p x)) (at (p y)))

module _ (every : List XanNode) (s : Secrets) (secret : ℕ → Bool) (tells : TellsNodes every s secret) (p : ℕ → ℕ) (b k : ℕ) where
  pub secret_row : (n : Node) → HasRow every p b k n → secret k ≡ is_secret s.inputs s.registers (λ j. secret (p j)) n
  secret_row Zero h = tells k xan.Zero (single every p b k Zero xan.Zero refl h)
  secret_row One h = tells k xan.One (single every p b k One xan.One refl h)
  secret_row (Input c) h = tells k (xan.Input c) (single every p b k (Input c) (xan.Input c) refl h)
  secret_row (Q c) h = tells k (xan.Q c) (single every p b k (Q c) (xan.Q c) refl h)
  secret_row (Not x) h = tells k (xan.Not (p x)) (single every p b k (Not x) (xan.Not (p x)) refl h)
  secret_row (Xor x y) h = tells k (xan.Xor (p x) (p y)) (single every p b k (Xor x y) (xan.Xor (p x) (p y)) refl h)
  secret_row (And x y) h = tells k (xan.And (p x) (p y)) (single every p b k (And x y) (xan.And (p x) (p y)) refl h)
  secret_row (Or x y) h =
      let o = sum_row every p b k x y h in
      tells k (xan.Not (b + 2)) o.3 ∙ (tells (b + 2) (xan.And b (b + 1)) o.2 ∙ ap₂ (λ u v. u || v) (tells b (xan.Not (p x)) o.0) (tells (b + 1) (xan.Not (p y)) o.1))
  secret_row (Mux c x y) h =
      let o = choice_row every p b k c x y h in
      tells k (xan.Xor (p x) (b + 1)) o.2
      ∙ (ap (λ v. secret (p x) || v) (tells (b + 1) (xan.And (p c) b) o.1 ∙ ap (λ v. secret (p c) || v) (tells b (xan.Xor (p x) (p y)) o.0))
      ∙ absorbed (secret (p c)) (secret (p x)) (secret (p y)))

  pub level_row : (level : ℕ → ℕ) → TellsLevels every secret level → (n : Node) → HasRow every p b k n → level k ≡ naive_level (λ j. secret (p j)) (λ j. level (p j)) n
  level_row level l Zero h = l k xan.Zero (single every p b k Zero xan.Zero refl h)
  level_row level l One h = l k xan.One (single every p b k One xan.One refl h)
  level_row level l (Input c) h = l k (xan.Input c) (single every p b k (Input c) (xan.Input c) refl h)
  level_row level l (Q c) h = l k (xan.Q c) (single every p b k (Q c) (xan.Q c) refl h)
  level_row level l (Not x) h = l k (xan.Not (p x)) (single every p b k (Not x) (xan.Not (p x)) refl h)
  level_row level l (Xor x y) h = l k (xan.Xor (p x) (p y)) (single every p b k (Xor x y) (xan.Xor (p x) (p y)) refl h)
  level_row level l (And x y) h = l k (xan.And (p x) (p y)) (single every p b k (And x y) (xan.And (p x) (p y)) refl h)
  level_row level l (Or x y) h =
      let o = sum_row every p b k x y h in
      l k (xan.Not (b + 2)) o.3
      ∙ (l (b + 2) (xan.And b (b + 1)) o.2
      ∙ (ap₂ (λ u v. product_level u v (level b) (level (b + 1))) (tells b (xan.Not (p x)) o.0) (tells (b + 1) (xan.Not (p y)) o.1)
      ∙ ap₂ (product_level (secret (p x)) (secret (p y))) (l b (xan.Not (p x)) o.0) (l (b + 1) (xan.Not (p y)) o.1)))
  level_row level l (Mux c x y) h =
      let o = choice_row every p b k c x y h in
      l k (xan.Xor (p x) (b + 1)) o.2
      ∙ ap (max (level (p x)))
      (l (b + 1) (xan.And (p c) b) o.1
      ∙ ap₂ (λ u v. product_level (secret (p c)) u (level (p c)) v) (tells b (xan.Xor (p x) (p y)) o.0) (l b (xan.Xor (p x) (p y)) o.0))
