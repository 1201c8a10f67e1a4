-- Marks of live nodes.
use Rattle.std.proofs.Common.{◌≡◌, ◌<◌, ◌+◌, ◌++◌, ◌==◌, ℕ, Bool, true, false, ◌&&◌, ◌||◌, List, [], ◌∷◌, length, slice_get, Some, IsTrue, nat_lt, ltb-true, refl, sym, ap, ◌∙◌, subst, arith, inl, inr, eq-eqb}
use Rattle.std.specs.List.{list_any}
use Rattle.std.specs.Option.{option_map_or}
use Rattle.std.proofs.lemmas.Bool.{cases_eq, or_cases, or_left, or_right, and_parts, and_from, eqb-true}
use Rattle.agm_net.specs.Loop.{IsChain, last_of}
use Rattle.agm_net.proofs.Lists.{any_at}
use Rattle.logic_graph.specs.declared.nodes.Node.{Node}
use Rattle.logic_graph.specs.declared.nodes.Node.TheVariants.{Zero, One, Input, Q, Not, Xor, And, Or, Mux}
use Rattle.logic_graph.specs.Live.{has_operand, reads_node}
use Rattle.logic_graph.specs.Nodes.{reads_before}
use Rattle.logic_graph.specs.Settled.{bit_of}
use Rattle.naive_mode.specs.Rows.{AreReached, AreReachedFrom, AreLive}

chain_more : (related : ℕ → ℕ → Bool) (i : ℕ) (ks : List ℕ) (j : ℕ) → IsChain related i ks → IsTrue (related (last_of i ks) j) → IsChain related i (ks ++ j ∷ [])
chain_more related i [] j c h = (h, tt)
chain_more related i (k ∷ ks) j c h = (c.0, chain_more related k ks j c.1 h)

last_more : (i : ℕ) (ks : List ℕ) (j : ℕ) → last_of i (ks ++ j ∷ []) ≡ j
last_more i [] j = refl
last_more i (k ∷ ks) j = last_more k ks j

is_first : (a k j : ℕ) → IsTrue (nat_lt a k) → IsTrue (a == j) → j < k
is_first a k j lt is = let e = eqb-true a j is in let l = ltb-true a k lt in omega arith

is_either : (a b k j : ℕ) → IsTrue (nat_lt a k && nat_lt b k) → IsTrue ((a == j) || (b == j)) → j < k
is_either a b k j lt is =
    let both = and_parts (nat_lt a k) (nat_lt b k) lt in
    elim (or_cases (a == j) (b == j) is) [ inl x ↦ is_first a k j both.0 x | inr y ↦ is_first b k j both.1 y ]

-- operands stand before the node
pub operand_before : (k : ℕ) (n : Node) (j : ℕ) → IsTrue (reads_before k n) → IsTrue (has_operand j n) → j < k
operand_before k Zero j b h = absurd (let no : false ≡ true = h in cc)
operand_before k One j b h = absurd (let no : false ≡ true = h in cc)
operand_before k (Input i) j b h = absurd (let no : false ≡ true = h in cc)
operand_before k (Q r) j b h = absurd (let no : false ≡ true = h in cc)
operand_before k (Not a) j b h = is_first a k j b h
operand_before k (Xor x y) j b h = is_either x y k j b h
operand_before k (And x y) j b h = is_either x y k j b h
operand_before k (Or x y) j b h = is_either x y k j b h
operand_before k (Mux s x y) j b h =
    let both = and_parts (nat_lt s k) (nat_lt x k && nat_lt y k) b in
    elim (or_cases (s == j) ((x == j) || (y == j)) h) [ inl first ↦ is_first s k j both.0 first | inr other ↦ is_either x y k j both.1 other ]

-- a node reads its operands
pub reads_at : (nodes : List Node) (k : ℕ) (n : Node) (j : ℕ) → slice_get nodes k ≡ Some n → reads_node nodes k j ≡ has_operand j n
reads_at nodes k n j at = ap (λ o. option_map_or (has_operand j) o false) at

pub reached_more : (nodes : List Node) (old now new : ℕ → Bool) (k : ℕ) (n : Node) → slice_get nodes k ≡ Some n → IsTrue (reads_before k n)
    → AreReachedFrom (k + 1) nodes old now → ((j : ℕ) → new j ≡ (now j || (now k && has_operand j n))) → AreReachedFrom k nodes old new
reached_more nodes old now new k n at before inv step =
    let more : ℕ → Bool = λ j. now k && has_operand j n in
    record {
      keeps = λ j h. step j ∙ or_left (now j) (now k && has_operand j n) (inv.keeps j h);
      sound = λ j h. elim (or_cases (now j) (now k && has_operand j n) (sym (step j) ∙ h)) [
        | inl there ↦ inv.sound j there
        | inr read ↦ (
            let both = and_parts (now k) (has_operand j n) read in
            let s = inv.sound k both.0 in
            let link : IsTrue (reads_node nodes (last_of s.0 s.1) j) = subst (λ l. IsTrue (reads_node nodes l j)) (sym s.4) (reads_at nodes k n j at ∙ both.1) in
            (s.0, s.1 ++ j ∷ [], s.2, chain_more (reads_node nodes) s.0 s.1 j s.3 link, last_more s.0 s.1 j))
      ];
      closed = λ i j le h r. elim (cases_eq i k) [
        | inl same ↦ (
            let read : IsTrue (has_operand j n) = sym (reads_at nodes k n j at) ∙ subst (λ l. IsTrue (reads_node nodes l j)) same r in
            let own : IsTrue (now k) = elim (or_cases (now k) (now k && has_operand k n) (sym (step k) ∙ subst (λ l. IsTrue (new l)) same h)) [
              | inl there ↦ there
              | inr both ↦ (and_parts (now k) (has_operand k n) both).0
            ] in
            step j ∙ or_right (now j) (now k && has_operand j n) (and_from (now k) (has_operand j n) own read))
        | inr apart ↦ elim (or_cases (now i) (now k && has_operand i n) (sym (step i) ∙ h)) [
          | inl there ↦ step j ∙ or_left (now j) (now k && has_operand j n) (inv.closed i j (omega arith) there r)
          | inr both ↦ absurd (let lt = operand_before k n i before (and_parts (now k) (has_operand i n) both).1 in omega arith)
        ]
      ];
    }

along : (nodes : List Node) (flag : ℕ → Bool) → ((i j : ℕ) → IsTrue (flag i) → IsTrue (reads_node nodes i j) → IsTrue (flag j)) → (i : ℕ) (ks : List ℕ) → IsTrue (flag i) → IsChain (reads_node nodes) i ks → IsTrue (flag (last_of i ks))
along nodes flag closed i [] h c = h
along nodes flag closed i (k ∷ ks) h c = along nodes flag closed k ks (closed i k h c.0) c.1

-- what reads lead to from sinks is live
pub are_live : (nodes : List Node) (sinks : List ℕ) (none old flags : List Bool) → ((j : ℕ) → bit_of none j ≡ false) → ((j : ℕ) → bit_of old j ≡ (bit_of none j || list_any (λ s. s == j) sinks))
    → length flags ≡ length nodes → AreReached nodes (bit_of old) (bit_of flags) → AreLive nodes sinks flags
are_live nodes sinks none old flags blank from long reached =
    let start : (j : ℕ) → bit_of old j ≡ list_any (λ s. s == j) sinks = λ j. from j ∙ ap (λ b. b || list_any (λ s. s == j) sinks) (blank j) in
    record {
      one_each = long;
      tells = λ k lt. (
        (λ h. let s = reached.sound k h in (s.0, s.1, sym (start s.0) ∙ s.2, s.3, s.4)),
        (λ live. subst (λ l. IsTrue (bit_of flags l)) live.4 (along nodes (bit_of flags) reached.closed live.0 live.1 (reached.keeps live.0 (start live.0 ∙ live.2)) live.3)),
      );
      closed = reached.closed;
      from_sinks = λ i s at. reached.keeps s (start s ∙ any_at (λ t. t == s) sinks i s at (eq-eqb s s refl));
    }
