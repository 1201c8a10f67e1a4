-- The later operand as the late one gives the least levels.
use Rattle.std.proofs.Common.{◌≡◌, ◌<◌, ◌≤◌, ◌+◌, ℕ, zero, suc, Bool, true, false, ◌&&◌, cond, max, min, List, [], ◌∷◌, length, slice_get, get_or, Some, IsTrue, All, nat_lt, ltb-true, arith}
use Rattle.std.specs.List.{AllByRecursion}
use Rattle.std.proofs.lemmas.Bool.{and_parts}
use Rattle.std.proofs.lemmas.Option.{slice_get-get_or, get_or_from_slice_get, slice_get_within}
use Rattle.agm_net.proofs.Lists.{all_places}
use Rattle.logic_graph.specs.declared.nodes.XanNode.{XanNode}
use Rattle.logic_graph.specs.declared.nodes.XanNode.TheVariants.{Zero, One, Input, Q, Not, Xor, And}
use Rattle.logic_graph.specs.Nodes.{xan_reads_before}
use Rattle.secrecy_spread.specs.Levels.{gadget_level, xan_level, TellsLevels, depth_of}
use Rattle.level_plan.specs.PlanOf.{chosen_level, TellsChosen}

-- the level of a product is least
product_least : (s f : Bool) (p q p' q' : ℕ) → p ≤ p' → q ≤ q'
    → cond s (gadget_level (max p q) (min p q)) (max p q) ≤ cond s (cond f (gadget_level p' q') (gadget_level q' p')) (max p' q')
product_least true true p q p' q' a b = omega arith
product_least true false p q p' q' a b = omega arith
product_least false f p q p' q' a b = omega arith

node_least : (secret first : ℕ → Bool) (level other : ℕ → ℕ) (k : ℕ) (n : XanNode) → IsTrue (xan_reads_before k n) → ((j : ℕ) → j < k → level j ≤ other j) → xan_level secret level n ≤ chosen_level secret first other k n
node_least s f l o k Zero h le = omega arith
node_least s f l o k One h le = omega arith
node_least s f l o k (Input i) h le = omega arith
node_least s f l o k (Q i) h le = omega arith
node_least s f l o k (Not a) h le = le a (ltb-true a k h)
node_least s f l o k (Xor a b) h le =
    let both = and_parts (nat_lt a k) (nat_lt b k) h in
    let x = le a (ltb-true a k both.0) in
    let y = le b (ltb-true b k both.1) in omega arith
node_least s f l o k (And a b) h le =
    let both = and_parts (nat_lt a k) (nat_lt b k) h in
    product_least (s a && s b) (f k) (l a) (l b) (o a) (o b) (le a (ltb-true a k both.0)) (le b (ltb-true b k both.1))

levels_least : (nodes : List XanNode) (secret first : ℕ → Bool) (level other : ℕ → ℕ) → ((k : ℕ) (n : XanNode) → slice_get nodes k ≡ Some n → IsTrue (xan_reads_before k n)) → TellsLevels nodes secret level → TellsChosen nodes secret first other
    → (m k : ℕ) → k < m → k < length nodes → level k ≤ other k
levels_least nodes s f l o order tells chosen zero k lt within = absurd (omega arith)
levels_least nodes s f l o order tells chosen (suc m) k lt within =
    let n = get_or nodes k Zero in
    let at : slice_get nodes k ≡ Some n = slice_get-get_or nodes k Zero within in
    let le = node_least s f l o k n (order k n at) (λ j lj. levels_least nodes s f l o order tells chosen m j (omega arith) (omega arith)) in
    let x = tells k n at in
    let y = chosen k n at in omega arith

cond_least : (b : Bool) (p q : ℕ) → p ≤ q → cond b p 0 ≤ cond b q 0
cond_least true p q h = h
cond_least false p q h = omega arith

greatest_least : (secret : ℕ → Bool) (level other : ℕ → ℕ) (sinks : List ℕ) → AllByRecursion (λ s. level s ≤ other s) sinks → depth_of secret level sinks ≤ depth_of secret other sinks
greatest_least secret level other [] h = omega arith
greatest_least secret level other (s ∷ ss) h =
    let x = cond_least (secret s) (level s) (other s) h.0 in
    let y = greatest_least secret level other ss h.1 in omega arith

pub depth_least : (nodes : List XanNode) (sinks : List ℕ) (secret first : ℕ → Bool) (level other : ℕ → ℕ) → ((k : ℕ) (n : XanNode) → slice_get nodes k ≡ Some n → IsTrue (xan_reads_before k n)) → All (λ s. s < length nodes) sinks
    → TellsLevels nodes secret level → TellsChosen nodes secret first other → depth_of secret level sinks ≤ depth_of secret other sinks
depth_least nodes sinks secret first level other order within tells chosen =
    greatest_least secret level other sinks (all_places (λ s. level s ≤ other s) sinks (λ n s at. (
    let lt : s < length nodes = (let w = within n s (slice_get_within sinks n s at) in let e = get_or_from_slice_get sinks n s s at in omega arith) in
    levels_least nodes secret first level other order tells chosen (s + 1) s (omega arith) lt)))
