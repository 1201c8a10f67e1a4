-- How a pipeline grows, node by node.
use Rattle.std.proofs.Common.{◌≡◌, ◌<◌, ◌+◌, ℕ, suc, Bool, not, List, Some, slice_get, sym, ap, ◌∙◌, subst, arith, inl, inr}
use Rattle.std.proofs.lemmas.Bool.{cases_lt}
use Rattle.logic_graph.specs.declared.nodes.XanNode.{XanNode}
use Rattle.share_wiring.specs.Wiring.{Wiring}
use Rattle.share_wiring.specs.Adds.{AddsFact}
use Rattle.pipeline_balance.specs.Signals.{Signal, Carries, Joins, Products}
use Rattle.pipeline_balance.specs.Pipelines.{Signals, IsJoined, IsGadget, IsMade}
use Rattle.pipeline_balance.specs.Shared.{shared, Places, placed}
use Rattle.pipeline_balance.specs.Growing.{AreInOrder, AreMade, HasMore}
use Rattle.pipeline_balance.proofs.Bridges.{agree_made}

-- the nodes that were made stay made, and a further one is
pub made_more : (nodes : List XanNode) (done : ℕ) (p q : Places) (others : (ℕ → ℕ → Bool) → Signals) (size level : ℕ) (shares : List ℕ) (n : XanNode) (old now new : Wiring)
    → AreInOrder nodes → slice_get nodes done ≡ Some n → HasMore done p q size level shares
    → AddsFact old now (AreMade nodes done p others) → AddsFact now new (λ cycles bits. IsMade cycles q.level (placed bits q (others bits)) done n)
    → AddsFact old new (AreMade nodes (suc done) q others)
made_more nodes done p q others size level shares n old now new in_order at more before made cycles bits run =
    let last = made cycles bits run in
    let first = before cycles bits last.0 in
    (first.0, each first.1 last.1)
  where
    each : AreMade nodes done p others cycles bits → IsMade cycles q.level (placed bits q (others bits)) done n → AreMade nodes (suc done) q others cycles bits
    each first last k m lt here =
        elim (cases_lt k done) [
          | inl earlier ↦ agree_made cycles bits p q (others bits) done k m more.agree earlier (in_order k m here) (first k m earlier here)
          | inr late ↦ (
              let is : k ≡ done = omega arith in
              let same : n ≡ m = (let there : slice_get nodes done ≡ Some m = ap (slice_get nodes) (sym is) ∙ here in cc) in
              subst (λ j. IsMade cycles q.level (placed bits q (others bits)) j m) (sym is) (subst (λ x. IsMade cycles q.level (placed bits q (others bits)) done x) same last))
        ]

-- The facts of a further node, by what the calls say of the sharings that it is made of.
module _ (cycles : ℕ) (bits : ℕ → ℕ → Bool) (done : ℕ) (p q : Places) (s : Signals) (size level : ℕ) (shares : List ℕ) (more : HasMore done p q size level shares) where
  pub joined_more : (op : Bool → Bool → Bool) (a b : ℕ) (x y : Signal) → a < done → b < done
      → Carries cycles (p.level a) level (shared (p.size a) bits (p.shares a)) x → Carries cycles (p.level b) level (shared (p.size b) bits (p.shares b)) y
      → Joins cycles op x y (shared size bits shares) → IsJoined cycles q.level (placed bits q s).node op done a b
  joined_more op a b x y la lb carries_a carries_b joins =
      let agree = more.agree in
      record {
        left = x;
        right = y;
        left_is = rw (agree.shares a la, agree.size a la, agree.level a la, more.new_level) carries_a;
        right_is = rw (agree.shares b lb, agree.size b lb, agree.level b lb, more.new_level) carries_b;
        joins = rw (more.new_shares, more.new_size) joins;
      }

  pub gadget_more : (base a b : ℕ) (x y : Signal) → level ≡ base + 2 → a < done → b < done
      → Carries cycles (p.level a) (base + 1) (shared (p.size a) bits (p.shares a)) x → Carries cycles (p.level b) base (shared (p.size b) bits (p.shares b)) y
      → Products cycles x y (shared size bits shares) → IsGadget cycles q.level (placed bits q s).node done a b
  gadget_more base a b x y two la lb carries_a carries_b products =
      let agree = more.agree in
      record {
        base = base;
        two_above = more.new_level ∙ two;
        late = x;
        early = y;
        late_is = rw (agree.shares a la, agree.size a la, agree.level a la) carries_a;
        early_is = rw (agree.shares b lb, agree.size b lb, agree.level b lb) carries_b;
        products = rw (more.new_shares, more.new_size) products;
      }

  pub inverted_more : (a : ℕ) → a < done → level ≡ p.level a
      → ((t : ℕ) → t < cycles → shared size bits shares t ≡ not (shared (p.size a) bits (p.shares a) t))
      → (q.level done ≡ q.level a) × ((t : ℕ) → t < cycles → (placed bits q s).node done t ≡ not ((placed bits q s).node a t))
  inverted_more a la same inverts =
      let agree = more.agree in
      (more.new_level ∙ (same ∙ sym (agree.level a la)), rw (more.new_shares, more.new_size, agree.shares a la, agree.size a la) inverts)
