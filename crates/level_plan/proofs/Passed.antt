-- Passes over nodes, one after another.
use Rattle.std.proofs.Common.{◌≡◌, ◌<◌, ◌≤◌, ◌+◌, ◌*◌, ℕ, Bool, ◌&&◌, ◌||◌, cond, max, min, List, length, slice_get, slice_set, get_or, Some, IsTrue, nat_lt, ltb-true, refl, sym, ap, ap₂, ◌∙◌, subst, arith, inl, inr, get_or-set_same, get_or-set_other}
use Rattle.std.proofs.lemmas.Bool.{cases_eq, cases_Bool, and_parts, and_from, lt-ltb}
use Rattle.logic_graph.specs.declared.nodes.XanNode.{XanNode}
use Rattle.logic_graph.specs.declared.nodes.XanNode.TheVariants.{Zero, One, Input, Q, Not, Xor, And}
use Rattle.logic_graph.specs.Nodes.{xan_reads_before}
use Rattle.secrecy_spread.specs.NodeSecrets.{xan_secret}
use Rattle.secrecy_spread.specs.Levels.{gadget_level, product_level, xan_level}
use Rattle.level_plan.specs.PlanOf.{level_at}

two_later : (j k a b : ℕ) → j ≤ k → IsTrue (nat_lt a j && nat_lt b j) → IsTrue (nat_lt a k && nat_lt b k)
two_later j k a b le h =
    let both = and_parts (nat_lt a j) (nat_lt b j) h in
    let first = ltb-true a j both.0 in
    let second = ltb-true b j both.1 in
    and_from (nat_lt a k) (nat_lt b k) (lt-ltb a k (omega arith)) (lt-ltb b k (omega arith))

-- a node behind its operands is so at each later place
pub reads_later : (j k : ℕ) (n : XanNode) → j ≤ k → IsTrue (xan_reads_before j n) → IsTrue (xan_reads_before k n)
reads_later j k Zero le h = refl
reads_later j k One le h = refl
reads_later j k (Input i) le h = refl
reads_later j k (Q i) le h = refl
reads_later j k (Not a) le h = let lt = ltb-true a j h in lt-ltb a k (omega arith)
reads_later j k (Xor a b) le h = two_later j k a b le h
reads_later j k (And a b) le h = two_later j k a b le h

-- a node says the same where its operands do
abbrev pub IsLocal : {V : Type 0} → ((ℕ → V) → XanNode → V) → Type 0
IsLocal {V} F = (x y : ℕ → V) (k : ℕ) (n : XanNode) → IsTrue (xan_reads_before k n) → ((j : ℕ) → j < k → x j ≡ y j) → F x n ≡ F y n

pub secret_local : (i r : List Bool) → IsLocal (xan_secret i r)
secret_local i r x y k Zero h same = refl
secret_local i r x y k One h same = refl
secret_local i r x y k (Input b) h same = refl
secret_local i r x y k (Q b) h same = refl
secret_local i r x y k (Not a) h same = same a (ltb-true a k h)
secret_local i r x y k (Xor a b) h same = let both = and_parts (nat_lt a k) (nat_lt b k) h in ap₂ (λ p q. p || q) (same a (ltb-true a k both.0)) (same b (ltb-true b k both.1))
secret_local i r x y k (And a b) h same = let both = and_parts (nat_lt a k) (nat_lt b k) h in ap₂ (λ p q. p || q) (same a (ltb-true a k both.0)) (same b (ltb-true b k both.1))

pub level_local : (secret : ℕ → Bool) → IsLocal (xan_level secret)
level_local s x y k Zero h same = refl
level_local s x y k One h same = refl
level_local s x y k (Input b) h same = refl
level_local s x y k (Q b) h same = refl
level_local s x y k (Not a) h same = same a (ltb-true a k h)
level_local s x y k (Xor a b) h same = let both = and_parts (nat_lt a k) (nat_lt b k) h in ap₂ max (same a (ltb-true a k both.0)) (same b (ltb-true b k both.1))
level_local s x y k (And a b) h same = let both = and_parts (nat_lt a k) (nat_lt b k) h in ap₂ (product_level (s a) (s b)) (same a (ltb-true a k both.0)) (same b (ltb-true b k both.1))

-- one node more
pub pass_more : {V : Type 0} (d : V) (F : (ℕ → V) → XanNode → V) → IsLocal F → (nodes : List XanNode) (values : List V) (k : ℕ) (x : V) → ((j : ℕ) (n : XanNode) → slice_get nodes j ≡ Some n → IsTrue (xan_reads_before j n)) → k < length values
    → ((n : XanNode) → slice_get nodes k ≡ Some n → x ≡ F (λ i. get_or values i d) n)
    → ((j : ℕ) (n : XanNode) → j < k → slice_get nodes j ≡ Some n → get_or values j d ≡ F (λ i. get_or values i d) n)
    → (j : ℕ) (n : XanNode) → j < k + 1 → slice_get nodes j ≡ Some n → get_or (slice_set values k x) j d ≡ F (λ i. get_or (slice_set values k x) i d) n
pass_more {V} d F is_local nodes values k x order within own before j n lt at =
    let old : ℕ → V = λ i. get_or values i d in
    let new : ℕ → V = λ i. get_or (slice_set values k x) i d in
    let kept : (i : ℕ) → i < k → old i ≡ new i = λ i li. sym (get_or-set_other values k i x d (λ same. absurd (omega arith))) in
    elim (cases_eq j k) [
      | inl same ↦ (
          let at' : slice_get nodes k ≡ Some n = subst (λ i. slice_get nodes i ≡ Some n) same at in
          ap new same ∙ (get_or-set_same values k x d within ∙ (own n at' ∙ is_local old new k n (order k n at') kept)))
      | inr apart ↦ (
          let lj : j < k = omega arith in
          sym (kept j lj) ∙ (before j n lj at ∙ is_local old new j n (order j n at) (λ i li. kept i (omega arith))))
    ]

-- a node is at most two levels above its operands
pub level_low : (secret : ℕ → Bool) (level : ℕ → ℕ) (m : ℕ) (n : XanNode) → ((j : ℕ) → level j ≤ m) → xan_level secret level n ≤ m + 2
level_low s l m Zero low = omega arith
level_low s l m One low = omega arith
level_low s l m (Input i) low = omega arith
level_low s l m (Q i) low = omega arith
level_low s l m (Not a) low = let x = low a in omega arith
level_low s l m (Xor a b) low = let x = low a in let y = low b in omega arith
level_low s l m (And a b) low =
    let x = low a in
    let y = low b in
    elim (cases_Bool (s a && s b)) [
      | inl t ↦ (let e : product_level (s a) (s b) (l a) (l b) ≡ gadget_level (max (l a) (l b)) (min (l a) (l b)) = ap (λ c. cond c (gadget_level (max (l a) (l b)) (min (l a) (l b))) (max (l a) (l b))) t in omega arith)
      | inr f ↦ (let e : product_level (s a) (s b) (l a) (l b) ≡ max (l a) (l b) = ap (λ c. cond c (gadget_level (max (l a) (l b)) (min (l a) (l b))) (max (l a) (l b))) f in omega arith)
    ]

-- one level more
pub low_more : (levels : List ℕ) (k x : ℕ) → k < length levels → x ≤ 2 * k + 2 → ((j : ℕ) → level_at levels j ≤ 2 * k) → (j : ℕ) → level_at (slice_set levels k x) j ≤ 2 * (k + 1)
low_more levels k x lt le low j = elim (cases_eq j k) [
  | inl same ↦ (let e : level_at (slice_set levels k x) j ≡ x = ap (level_at (slice_set levels k x)) same ∙ get_or-set_same levels k x 0 lt in omega arith)
  | inr apart ↦ (let e : level_at (slice_set levels k x) j ≡ level_at levels j = get_or-set_other levels k j x 0 apart in let l = low j in omega arith)
]
