-- Flags of nodes, one after another.
use Rattle.std.proofs.Common.{◌≡◌, ◌<◌, ◌≤◌, ◌+◌, ℕ, Bool, false, ◌&&◌, ◌||◌, List, length, slice_get, slice_set, Some, IsTrue, nat_lt, ltb-true, refl, sym, ap, ap₂, ◌∙◌, subst, arith, inl, inr, get_or-set_same, get_or-set_other}
use Rattle.std.proofs.lemmas.Bool.{cases_eq, and_parts, and_from, lt-ltb}
use Rattle.logic_graph.specs.declared.nodes.Node.{Node}
use Rattle.logic_graph.specs.declared.nodes.Node.TheVariants.{Zero, One, Input, Q, Not, Xor, And, Or, Mux}
use Rattle.logic_graph.specs.Nodes.{reads_before}
use Rattle.logic_graph.specs.Settled.{bit_of}
use Rattle.secrecy_spread.specs.NodeSecrets.{is_secret}

two_later : (j k a b : ℕ) → j ≤ k → IsTrue (nat_lt a j && nat_lt b j) → IsTrue (nat_lt a k && nat_lt b k)
two_later j k a b le h =
    let both = and_parts (nat_lt a j) (nat_lt b j) h in
    let first = ltb-true a j both.0 in
    let second = ltb-true b j both.1 in
    and_from (nat_lt a k) (nat_lt b k) (lt-ltb a k (omega arith)) (lt-ltb b k (omega arith))

-- a node behind its operands is so at each later place
pub reads_later : (j k : ℕ) (n : Node) → j ≤ k → IsTrue (reads_before j n) → IsTrue (reads_before k n)
reads_later j k Zero le h = refl
reads_later j k One le h = refl
reads_later j k (Input i) le h = refl
reads_later j k (Q i) le h = refl
reads_later j k (Not a) le h = let lt = ltb-true a j h in lt-ltb a k (omega arith)
reads_later j k (Xor a b) le h = two_later j k a b le h
reads_later j k (And a b) le h = two_later j k a b le h
reads_later j k (Or a b) le h = two_later j k a b le h
reads_later j k (Mux s a b) le h =
    let all = and_parts (nat_lt s j) (nat_lt a j && nat_lt b j) h in
    let first = ltb-true s j all.0 in
    and_from (nat_lt s k) (nat_lt a k && nat_lt b k) (lt-ltb s k (omega arith)) (two_later j k a b le all.1)

two_same : (x y : ℕ → Bool) (k a b : ℕ) → IsTrue (nat_lt a k && nat_lt b k) → ((j : ℕ) → j < k → x j ≡ y j) → (x a || x b) ≡ (y a || y b)
two_same x y k a b h same = let both = and_parts (nat_lt a k) (nat_lt b k) h in ap₂ (λ p q. p || q) (same a (ltb-true a k both.0)) (same b (ltb-true b k both.1))

-- flags that agree below a node say the same of it
pub secret_same : (inputs registers : List Bool) (x y : ℕ → Bool) (k : ℕ) (n : Node) → IsTrue (reads_before k n) → ((j : ℕ) → j < k → x j ≡ y j) → is_secret inputs registers x n ≡ is_secret inputs registers y n
secret_same i r x y k Zero h same = refl
secret_same i r x y k One h same = refl
secret_same i r x y k (Input b) h same = refl
secret_same i r x y k (Q b) h same = refl
secret_same i r x y k (Not a) h same = same a (ltb-true a k h)
secret_same i r x y k (Xor a b) h same = two_same x y k a b h same
secret_same i r x y k (And a b) h same = two_same x y k a b h same
secret_same i r x y k (Or a b) h same = two_same x y k a b h same
secret_same i r x y k (Mux s a b) h same =
    let all = and_parts (nat_lt s k) (nat_lt a k && nat_lt b k) h in
    ap₂ (λ p q. p || q) (same s (ltb-true s k all.0)) (two_same x y k a b all.1 same)

-- one more flag
pub secret_more : (nodes : List Node) (inputs registers flags : List Bool) (k : ℕ) (x : Bool) → ((j : ℕ) (n : Node) → slice_get nodes j ≡ Some n → IsTrue (reads_before j n)) → k < length flags
    → ((n : Node) → slice_get nodes k ≡ Some n → x ≡ is_secret inputs registers (bit_of flags) n)
    → ((j : ℕ) (n : Node) → j < k → slice_get nodes j ≡ Some n → bit_of flags j ≡ is_secret inputs registers (bit_of flags) n)
    → (j : ℕ) (n : Node) → j < k + 1 → slice_get nodes j ≡ Some n → bit_of (slice_set flags k x) j ≡ is_secret inputs registers (bit_of (slice_set flags k x)) n
secret_more nodes inputs registers flags k x order within own before j n lt at =
    let kept : (i : ℕ) → i < k → bit_of flags i ≡ bit_of (slice_set flags k x) i = λ i li. sym (get_or-set_other flags k i x false (λ same. absurd (omega arith))) in
    elim (cases_eq j k) [
      | inl same ↦ (
          let at' : slice_get nodes k ≡ Some n = subst (λ i. slice_get nodes i ≡ Some n) same at in
          ap (bit_of (slice_set flags k x)) same
          ∙ (get_or-set_same flags k x false within ∙ (own n at' ∙ secret_same inputs registers (bit_of flags) (bit_of (slice_set flags k x)) k n (order k n at') kept)))
      | inr apart ↦ (
          let lj : j < k = omega arith in
          sym (kept j lj) ∙ (before j n lj at ∙ secret_same inputs registers (bit_of flags) (bit_of (slice_set flags k x)) j n (order j n at) (λ i li. kept i (omega arith))))
    ]
