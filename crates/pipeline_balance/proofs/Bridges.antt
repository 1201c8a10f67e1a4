-- What a builder's calls say, as facts on signals.
use Rattle.std.proofs.Common.{◌≡◌, ◌<◌, ◌+◌, ◌&&◌, ℕ, zero, suc, Bool, false, true, List, IsTrue, nat_lt, refl, sym, ap, ◌∙◌, arith, inl, inr}
use Rattle.std.proofs.lemmas.Bool.{and_parts, ltb-true}
use Rattle.agm_net.specs.Formula.{xor}
use Rattle.logic_graph.specs.Nodes.{xan_reads_before}
use Rattle.logic_graph.specs.declared.nodes.XanNode.{XanNode}
use Rattle.logic_graph.specs.declared.nodes.XanNode.TheVariants.{Zero, One, Input, Q, Not, Xor, And}
use Rattle.share_wiring.specs.Recombine.{xor_below}
use Rattle.share_wiring.specs.Wiring.{share}
use Rattle.share_wiring.specs.Adds.{Xors, Masks, Holds, Copies, Delays}
use Rattle.hpc2_gadget.specs.Product.{Multiplies}
use Rattle.pipeline_balance.specs.Signals.{Signal, Carries, Joins, Products, selected}
use Rattle.pipeline_balance.specs.Pipelines.{Signals, IsJoined, IsGadget, IsMade}
use Rattle.pipeline_balance.specs.Shared.{shared, Places, Agree, placed}

-- shares with the same bits recombine to the same
pub xor_same : (n : ℕ) (f g : ℕ → Bool) → ((i : ℕ) → i < n → f i ≡ g i) → xor_below n f ≡ xor_below n g
xor_same zero f g h = refl
xor_same (suc n) f g h =
    let before = xor_same n f g (λ i lt. h i (omega arith)) in
    let last : f n ≡ g n = h n (omega arith) in cc

-- what is at its level already
pub carries_here : (cycles p : ℕ) (x : Signal) → Carries cycles p p x x
carries_here cycles p x = record { not_before = omega arith; same = λ t lt. refl }

-- one carried on by another
pub carries_on : (cycles p q r : ℕ) (x y z : Signal) → Carries cycles p q x y → Carries cycles q r y z → Carries cycles p r x z
carries_on cycles p q r x y z a b =
    let first = a.not_before in
    let second = b.not_before in
    record { not_before = omega arith; same = λ t lt. b.same t lt ∙ a.same t (omega arith) }

-- delay registers carry one level on
pub delays_carry : (n cycles p : ℕ) (bits : ℕ → ℕ → Bool) (x z : List ℕ) → Delays n cycles bits x z → Carries cycles p (p + 1) (shared n bits x) (shared n bits z)
delays_carry n cycles p bits x z delays =
    record {
      not_before = omega arith;
      same = λ t lt. (
          let here : t + (p + 1) ≡ (t + p) + 1 = omega arith in
          ap (shared n bits z) here
          ∙ xor_same n (λ i. bits ((t + p) + 1) (share z i)) (λ i. bits (t + p) (share x i)) (λ i li. delays (t + p) (omega arith) i li));
    }

-- copies carry no further
pub copies_carry : (n cycles p : ℕ) (bits : ℕ → ℕ → Bool) (x z : List ℕ) → Copies n cycles bits x z → Carries cycles p p (shared n bits x) (shared n bits z)
copies_carry n cycles p bits x z copies =
    record { not_before = omega arith; same = λ t lt. xor_same n (λ i. bits (t + p) (share z i)) (λ i. bits (t + p) (share x i)) (λ i li. copies (t + p) lt i li) }

-- nor does a public value that becomes a sharing of n shares
pub holds_carry : (n cycles p : ℕ) (bits : ℕ → ℕ → Bool) (x z : List ℕ) → Holds n cycles bits (share x 0) z → Carries cycles p p (shared 1 bits x) (shared n bits z)
holds_carry n cycles p bits x z holds = record { not_before = omega arith; same = λ t lt. holds (t + p) lt }

pub xors_join : (n cycles : ℕ) (bits : ℕ → ℕ → Bool) (x y z : List ℕ) → Xors n cycles bits x y z → Joins cycles xor (shared n bits x) (shared n bits y) (shared n bits z)
xors_join n cycles bits x y z xors = xors

-- a product with a public value
pub masks_join : (n cycles : ℕ) (bits : ℕ → ℕ → Bool) (w x z : List ℕ) → Masks n cycles bits (share w 0) x z → Joins cycles (λ a b. a && b) (shared 1 bits w) (shared n bits x) (shared n bits z)
masks_join n cycles bits w x z masks = masks

and_swap : (x y : Bool) → (x && y) ≡ (y && x)
and_swap false false = refl
and_swap false true = refl
and_swap true false = refl
and_swap true true = refl

-- the public value as the second factor
pub masks_join_second : (n cycles : ℕ) (bits : ℕ → ℕ → Bool) (w x z : List ℕ) → Masks n cycles bits (share w 0) x z → Joins cycles (λ a b. a && b) (shared n bits x) (shared 1 bits w) (shared n bits z)
masks_join_second n cycles bits w x z masks t lt = masks t lt ∙ and_swap (shared 1 bits w t) (shared n bits x t)

pub multiplies_products : (n cycles : ℕ) (bits : ℕ → ℕ → Bool) (x y z : List ℕ) → Multiplies n cycles bits x y z → Products cycles (shared n bits x) (shared n bits y) (shared n bits z)
multiplies_products n cycles bits x y z multiplies = multiplies

-- the selection before a register's last stage, and that stage
pub selects : (n cycles : ℕ) (bits : ℕ → ℕ → Bool) (load x initial difference masked selection q : List ℕ)
    → Xors n cycles bits x initial difference → Masks n cycles bits (share load 0) difference masked → Xors n cycles bits x masked selection → Delays n cycles bits selection q
    → (t : ℕ) → t + 1 < cycles → shared n bits q (t + 1) ≡ selected (shared 1 bits load t) (shared n bits initial t) (shared n bits x t)
selects n cycles bits load x initial difference masked selection q first second third stored t lt =
    xor_same n (λ i. bits (t + 1) (share q i)) (λ i. bits t (share selection i)) (λ i li. stored t lt i li)
    ∙ (third t (omega arith)
    ∙ ap (xor (shared n bits x t)) (second t (omega arith) ∙ ap (λ b. shared 1 bits load t && b) (first t (omega arith))))

-- ---- more places keep what is said of earlier ones

agree_joined : (cycles : ℕ) (bits : ℕ → ℕ → Bool) (p q : Places) (s : Signals) (op : Bool → Bool → Bool) (bound k a b : ℕ) → Agree bound p q → k < bound → a < bound → b < bound
    → IsJoined cycles p.level (placed bits p s).node op k a b → IsJoined cycles q.level (placed bits q s).node op k a b
agree_joined cycles bits p q s op bound k a b agree lk la lb j =
    record {
      left = j.left;
      right = j.right;
      left_is = rw (agree.shares a la, agree.size a la, agree.level a la, agree.level k lk) j.left_is;
      right_is = rw (agree.shares b lb, agree.size b lb, agree.level b lb, agree.level k lk) j.right_is;
      joins = rw (agree.shares k lk, agree.size k lk) j.joins;
    }

agree_gadget : (cycles : ℕ) (bits : ℕ → ℕ → Bool) (p q : Places) (s : Signals) (bound k a b : ℕ) → Agree bound p q → k < bound → a < bound → b < bound
    → IsGadget cycles p.level (placed bits p s).node k a b → IsGadget cycles q.level (placed bits q s).node k a b
agree_gadget cycles bits p q s bound k a b agree lk la lb g =
    record {
      base = g.base;
      two_above = agree.level k lk ∙ g.two_above;
      late = g.late;
      early = g.early;
      late_is = rw (agree.shares a la, agree.size a la, agree.level a la) g.late_is;
      early_is = rw (agree.shares b lb, agree.size b lb, agree.level b lb) g.early_is;
      products = rw (agree.shares k lk, agree.size k lk) g.products;
    }

-- what is said of a node stays true where places agree up to it
pub agree_made : (cycles : ℕ) (bits : ℕ → ℕ → Bool) (p q : Places) (s : Signals) (bound k : ℕ) (n : XanNode) → Agree bound p q → k < bound → IsTrue (xan_reads_before k n)
    → IsMade cycles p.level (placed bits p s) k n → IsMade cycles q.level (placed bits q s) k n
agree_made cycles bits p q s bound k Zero agree lk reads made = rw (agree.shares k lk, agree.size k lk) made
agree_made cycles bits p q s bound k One agree lk reads made = rw (agree.shares k lk, agree.size k lk) made
agree_made cycles bits p q s bound k (Input i) agree lk reads made = (agree.level k lk ∙ made.0, rw (agree.shares k lk, agree.size k lk) made.1)
agree_made cycles bits p q s bound k (Q r) agree lk reads made = (agree.level k lk ∙ made.0, rw (agree.shares k lk, agree.size k lk) made.1)
agree_made cycles bits p q s bound k (Not a) agree lk reads made =
    let below = ltb-true a k reads in
    let la : a < bound = omega arith in
    (agree.level k lk ∙ (made.0 ∙ sym (agree.level a la)), rw (agree.shares k lk, agree.size k lk, agree.shares a la, agree.size a la) made.1)
agree_made cycles bits p q s bound k (Xor a b) agree lk reads made =
    let both = and_parts (nat_lt a k) (nat_lt b k) reads in
    let below_a = ltb-true a k both.0 in
    let below_b = ltb-true b k both.1 in
    agree_joined cycles bits p q s xor bound k a b agree lk (omega arith) (omega arith) made
agree_made cycles bits p q s bound k (And a b) agree lk reads made =
    let both = and_parts (nat_lt a k) (nat_lt b k) reads in
    let below_a = ltb-true a k both.0 in
    let below_b = ltb-true b k both.1 in
    let la : a < bound = omega arith in
    let lb : b < bound = omega arith in
    elim made [
      | inl linear ↦ inl (agree_joined cycles bits p q s (λ x y. x && y) bound k a b agree lk la lb linear)
      | inr gadget ↦ elim gadget [
        | inl first ↦ inr (inl (agree_gadget cycles bits p q s bound k a b agree lk la lb first))
        | inr second ↦ inr (inr (agree_gadget cycles bits p q s bound k b a agree lk lb la second))
      ]
    ]
