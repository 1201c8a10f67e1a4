-- Nodes that are made of what a table has.
use Rattle.std.proofs.Common.{◌≡◌, ◌<◌, ◌≤◌, ◌+◌, ◌-◌, ◌&&◌, ℕ, Bool, true, false, cond, List, length, sym, ap, subst, inl, inr, ◌∙◌, arith}
use Rattle.agm_net.specs.Formula.{xor}
use Rattle.logic_graph.specs.declared.nodes.XanNode.TheVariants.{Zero, One, Input, Q, Not, Xor, And}
use Rattle.share_wiring.specs.Wiring.{Wiring}
use Rattle.pipeline_balance.specs.declared.values.Value.{Value}
use Rattle.pipeline_balance.specs.declared.chains.Chain.{Chain}
use Rattle.pipeline_balance.specs.Signals.{Carries, Joins, Products}
use Rattle.pipeline_balance.specs.Valued.{is_secret, size_of, wires_of, IsValue, signal, IsInverse}
use Rattle.pipeline_balance.specs.Chained.{value_at, chain_at, stage, at_level, kind_at, places_of, AreValues, AreCarried, IsRead, CanBeMade, MakesNode}
use Rattle.pipeline_balance.proofs.Growing.{joined_more, gadget_more, inverted_more}
use Rattle.pipeline_balance.proofs.Chaining.{read_value, read_kind, read_carried}

-- what was read is a value of the node's kind
module _ (n : ℕ) (net : Wiring) (table : List (Chain n)) (k q : ℕ) (x : Value n) (read : IsRead n table k q) (values : AreValues n net table) (is : x ≡ at_level table k q) where
  pub value_read : IsValue n net x
  value_read = subst (λ v. IsValue n net v) (sym is) (read_value n table k q read net (values k read.known))

  pub kind_read : is_secret x ≡ kind_at table k
  kind_read = ap is_secret is ∙ read_kind n table k q read net (values k read.known)

-- how a product of two nodes can be made
pub can_gadget : (n : ℕ) (table : List (Chain n)) (level a b : ℕ) (late : Bool) → (kind_at table a && kind_at table b) ≡ true → CanBeMade n 0 0 table level late (And a b)
    → (2 ≤ level) × IsRead n table (cond late a b) (level - 1) × IsRead n table (cond late b a) (level - 2)
can_gadget n table level a b late both can =
    subst (λ x. cond x ((2 ≤ level) × IsRead n table (cond late a b) (level - 1) × IsRead n table (cond late b a) (level - 2)) (IsRead n table a level × IsRead n table b level)) both can

pub can_public : (n : ℕ) (table : List (Chain n)) (level a b : ℕ) (late : Bool) → (kind_at table a && kind_at table b) ≡ false → CanBeMade n 0 0 table level late (And a b)
    → IsRead n table a level × IsRead n table b level
can_public n table level a b late both can =
    subst (λ x. cond x ((2 ≤ level) × IsRead n table (cond late a b) (level - 1) × IsRead n table (cond late b a) (level - 2)) (IsRead n table a level × IsRead n table b level)) both can

pub reads_first : (n : ℕ) (table : List (Chain n)) (level a b : ℕ) (late : Bool) → (kind_at table a && kind_at table b) ≡ true → late ≡ true → CanBeMade n 0 0 table level late (And a b)
    → (2 ≤ level) × IsRead n table a (level - 1) × IsRead n table b (level - 2)
reads_first n table level a b late both e can =
    subst (λ l. (2 ≤ level) × IsRead n table (cond l a b) (level - 1) × IsRead n table (cond l b a) (level - 2)) e (can_gadget n table level a b late both can)

pub reads_second : (n : ℕ) (table : List (Chain n)) (level a b : ℕ) (late : Bool) → (kind_at table a && kind_at table b) ≡ true → late ≡ false → CanBeMade n 0 0 table level late (And a b)
    → (2 ≤ level) × IsRead n table b (level - 1) × IsRead n table a (level - 2)
reads_second n table level a b late both e can =
    subst (λ l. (2 ≤ level) × IsRead n table (cond l a b) (level - 1) × IsRead n table (cond l b a) (level - 2)) e (can_gadget n table level a b late both can)

module _ (n : ℕ) (inputs registers : List (Value n)) (table : List (Chain n)) (level : ℕ) (v : Value n) (cycles : ℕ) (bits : ℕ → ℕ → Bool) where
  pub zero_made : ((t : ℕ) → t < cycles → signal n bits v t ≡ false) → MakesNode n inputs registers table Zero level v cycles bits
  zero_made h carried q s sources more = rw (more.new_shares, more.new_size) h

  pub one_made : ((t : ℕ) → t < cycles → signal n bits v t ≡ true) → MakesNode n inputs registers table One level v cycles bits
  one_made h carried q s sources more = rw (more.new_shares, more.new_size) h

  pub input_made : (i : ℕ) → level ≡ 0 → i < length inputs → v ≡ value_at inputs i → MakesNode n inputs registers table (Input i) level v cycles bits
  input_made i none known e carried q s sources more =
      (more.new_level ∙ none, rw (more.new_shares, more.new_size) (λ t lt. ap (λ x. signal n bits x t) e ∙ sym (sources.given i t known)))

  pub register_made : (r : ℕ) → level ≡ 0 → r < length registers → v ≡ value_at registers r → MakesNode n inputs registers table (Q r) level v cycles bits
  register_made r none known e carried q s sources more =
      (more.new_level ∙ none, rw (more.new_shares, more.new_size) (λ t lt. ap (λ x. signal n bits x t) e ∙ sym (sources.state r t known)))

  pub not_made : (a : ℕ) → IsRead n table a level → level ≡ (chain_at table a).level → IsInverse cycles (signal n bits (at_level table a level)) (signal n bits v)
      → MakesNode n inputs registers table (Not a) level v cycles bits
  not_made a read same inverts carried q s sources more =
      let here : level - (chain_at table a).level ≡ 0 = omega (arith, same) in
      inverted_more cycles bits (length table) (places_of n table) q s (size_of n v) level (wires_of v) more a read.known same
      (subst (λ i. IsInverse cycles (signal n bits (stage (chain_at table a) i)) (signal n bits v)) here inverts)

  pub xor_made : (a b : ℕ) → IsRead n table a level → IsRead n table b level
      → Joins cycles xor (signal n bits (at_level table a level)) (signal n bits (at_level table b level)) (signal n bits v) → MakesNode n inputs registers table (Xor a b) level v cycles bits
  xor_made a b read_a read_b joins carried q s sources more =
      joined_more cycles bits (length table) (places_of n table) q s (size_of n v) level (wires_of v) more xor a b (signal n bits (at_level table a level)) (signal n bits (at_level table b level))
      read_a.known read_b.known (read_carried n table a level read_a cycles bits carried) (read_carried n table b level read_b cycles bits carried) joins

  pub public_made : (a b : ℕ) → IsRead n table a level → IsRead n table b level
      → Joins cycles (λ x y. x && y) (signal n bits (at_level table a level)) (signal n bits (at_level table b level)) (signal n bits v) → MakesNode n inputs registers table (And a b) level v cycles bits
  public_made a b read_a read_b joins carried q s sources more =
      inl (joined_more cycles bits (length table) (places_of n table) q s (size_of n v) level (wires_of v) more (λ x y. x && y) a b (signal n bits (at_level table a level)) (signal n bits (at_level table b level))
      read_a.known read_b.known (read_carried n table a level read_a cycles bits carried) (read_carried n table b level read_b cycles bits carried) joins)

  carried_late : (l : ℕ) → 2 ≤ level → IsRead n table l (level - 1) → AreCarried n table cycles bits
      → Carries cycles (chain_at table l).level ((level - 2) + 1) (signal n bits (stage (chain_at table l) 0)) (signal n bits (at_level table l (level - 1)))
  carried_late l two read carried =
      let same : level - 1 ≡ (level - 2) + 1 = omega (arith, two) in
      subst (λ p. Carries cycles (chain_at table l).level p (signal n bits (stage (chain_at table l) 0)) (signal n bits (at_level table l (level - 1)))) same (read_carried n table l (level - 1) read cycles bits carried)

  pub first_late : (a b : ℕ) → 2 ≤ level → IsRead n table a (level - 1) → IsRead n table b (level - 2)
      → Products cycles (signal n bits (at_level table a (level - 1))) (signal n bits (at_level table b (level - 2))) (signal n bits v) → MakesNode n inputs registers table (And a b) level v cycles bits
  first_late a b two read_a read_b products carried q s sources more =
      inr (inl (gadget_more cycles bits (length table) (places_of n table) q s (size_of n v) level (wires_of v) more (level - 2) a b (signal n bits (at_level table a (level - 1))) (signal n bits (at_level table b (level - 2)))
      (omega (arith, two)) read_a.known read_b.known (carried_late a two read_a carried) (read_carried n table b (level - 2) read_b cycles bits carried) products))

  pub second_late : (a b : ℕ) → 2 ≤ level → IsRead n table b (level - 1) → IsRead n table a (level - 2)
      → Products cycles (signal n bits (at_level table b (level - 1))) (signal n bits (at_level table a (level - 2))) (signal n bits v) → MakesNode n inputs registers table (And a b) level v cycles bits
  second_late a b two read_b read_a products carried q s sources more =
      inr (inr (gadget_more cycles bits (length table) (places_of n table) q s (size_of n v) level (wires_of v) more (level - 2) b a (signal n bits (at_level table b (level - 1))) (signal n bits (at_level table a (level - 2)))
      (omega (arith, two)) read_b.known read_a.known (carried_late b two read_b carried) (read_carried n table a (level - 2) read_a cycles bits carried) products))
