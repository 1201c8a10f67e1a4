-- Gadgets row by row, and the depth.
use Rattle.std.proofs.Common.{◌≡◌, ◌+◌, ℕ, suc, Bool, cond, ◌&&◌, max, map, count_by, List, [], ◌∷◌, length, slice_get, Some, IsTrue, refl, sym, ap, ap₂, ◌∙◌, arith, inl, inr}
use Rattle.std.specs.List.{AllByRecursion, enumerate_from}
use Rattle.std.proofs.lemmas.Bool.{cases_Bool}
use Rattle.std.proofs.lemmas.List.Sums.{sum_by-cons}
use Rattle.agm_net.proofs.Lists.{count_no, count_append}
use Rattle.logic_graph.specs.declared.nodes.Node.{Node}
use Rattle.logic_graph.specs.declared.nodes.Node.TheVariants.{Zero, One, Input, Q, Not, Xor, And, Or, Mux}
use Rattle.logic_graph.specs.declared.nodes.XanNode.{XanNode}
use Rattle.logic_graph.specs.declared.nodes.XanNode.TheVariants as xan
use Rattle.secrecy_spread.specs.declared.secrets.Secrets.{Secrets}
use Rattle.secrecy_spread.specs.NodeSecrets.{TellsNodes}
use Rattle.secrecy_spread.specs.Costs.{is_gadget}
use Rattle.secrecy_spread.specs.Levels.{depth_of}
use Rattle.secrecy_spread.specs.Naive.{takes_gadget}
use Rattle.naive_mode.specs.Rows.{row, live_row, laid}
use Rattle.naive_mode.proofs.Standing.{HasRow, HaveRows, sum_row, choice_row}

count_next : {X : Type 0} (test : X → Bool) (x : X) (xs : List X) → count_by test (x ∷ xs) ≡ cond (test x) 1 0 + count_by test xs
count_next test x xs = sum_by-cons (λ y. cond (test y) 1 0) x xs

none_more : (n : ℕ) → n + 0 ≡ n
none_more n = omega arith

-- a count of one item
count_one : {X : Type 0} (test : X → Bool) (x : X) → count_by test (x ∷ []) ≡ cond (test x) 1 0
count_one test x = count_next test x [] ∙ none_more (cond (test x) 1 0)

module _ (every : List XanNode) (s : Secrets) (secret : ℕ → Bool) (tells : TellsNodes every s secret) (p : ℕ → ℕ) where
  -- a row has a gadget where its node takes one
  row_gadgets : (b k : ℕ) (n : Node) → HasRow every p b k n → count_by (is_gadget secret) (row b p n) ≡ cond (takes_gadget (λ j. secret (p j)) n) 1 0
  row_gadgets b k Zero h = count_one (is_gadget secret) xan.Zero
  row_gadgets b k One h = count_one (is_gadget secret) xan.One
  row_gadgets b k (Input c) h = count_one (is_gadget secret) (xan.Input c)
  row_gadgets b k (Q c) h = count_one (is_gadget secret) (xan.Q c)
  row_gadgets b k (Not x) h = count_one (is_gadget secret) (xan.Not (p x))
  row_gadgets b k (Xor x y) h = count_one (is_gadget secret) (xan.Xor (p x) (p y))
  row_gadgets b k (And x y) h = count_one (is_gadget secret) (xan.And (p x) (p y))
  row_gadgets b k (Or x y) h =
      let o = sum_row every p b k x y h in
      let last : List XanNode = xan.Not (b + 2) ∷ [] in
      count_no (is_gadget secret) (xan.Not (p x)) (xan.Not (p y) ∷ xan.And b (b + 1) ∷ last) refl
      ∙ (count_no (is_gadget secret) (xan.Not (p y)) (xan.And b (b + 1) ∷ last) refl
      ∙ (count_next (is_gadget secret) (xan.And b (b + 1)) last
      ∙ (ap (λ m. cond (secret b && secret (b + 1)) 1 0 + m) (count_one (is_gadget secret) (xan.Not (b + 2)))
      ∙ (none_more (cond (secret b && secret (b + 1)) 1 0)
      ∙ ap₂ (λ u v. cond (u && v) 1 0) (tells b (xan.Not (p x)) o.0) (tells (b + 1) (xan.Not (p y)) o.1)))))
  row_gadgets b k (Mux c x y) h =
      let o = choice_row every p b k c x y h in
      let last : List XanNode = xan.Xor (p x) (b + 1) ∷ [] in
      count_no (is_gadget secret) (xan.Xor (p x) (p y)) (xan.And (p c) b ∷ last) refl
      ∙ (count_next (is_gadget secret) (xan.And (p c) b) last
      ∙ (ap (λ m. cond (secret (p c) && secret b) 1 0 + m) (count_one (is_gadget secret) (xan.Xor (p x) (b + 1)))
      ∙ (none_more (cond (secret (p c) && secret b) 1 0)
      ∙ ap (λ v. cond (secret (p c) && v) 1 0) (tells b (xan.Xor (p x) (p y)) o.0))))

  -- and so all rows
  pub laid_gadgets : (live told : ℕ → Bool) (b k : ℕ) (ns : List Node) → HaveRows every live p b k ns
      → ((j i : ℕ) (n : Node) → k + j ≡ i → slice_get ns j ≡ Some n → IsTrue (live i) → takes_gadget (λ a. secret (p a)) n ≡ takes_gadget told n)
      → count_by (is_gadget secret) (laid live p b k ns) ≡ count_by (λ (e : ℕ × Node). live e.0 && takes_gadget told e.1) (enumerate_from k ns)
  laid_gadgets live told b k [] rows same = refl
  laid_gadgets live told b k (n ∷ ns) rows same =
      let mine : List XanNode = live_row (live k) b p n in
      let test : ℕ × Node → Bool = λ e. live e.0 && takes_gadget told e.1 in
      let own : count_by (is_gadget secret) mine ≡ cond (live k && takes_gadget told n) 1 0 = elim (cases_Bool (live k)) [
        | inl on ↦ (
            ap (λ l. count_by (is_gadget secret) (live_row l b p n)) on
            ∙ (row_gadgets b (p k) n (rows.0 on)
            ∙ (ap (λ g. cond g 1 0) (same 0 k n (omega arith) refl on)
            ∙ ap (λ l. cond (l && takes_gadget told n) 1 0) (sym on))))
        | inr off ↦ (
            ap (λ l. count_by (is_gadget secret) (live_row l b p n)) off
            ∙ ap (λ l. cond (l && takes_gadget told n) 1 0) (sym off))
      ] in
      count_append (is_gadget secret) mine (laid live p (b + length mine) (k + 1) ns)
      ∙ (ap₂ (λ u v. u + v) own (laid_gadgets live told (b + length mine) (k + 1) ns rows.1 (λ j i m is at. same (suc j) i m (omega arith) at))
      ∙ sym (count_next (λ (e : ℕ × Node). live e.0 && takes_gadget told e.1) (k, n) (enumerate_from (k + 1) ns)))

-- sinks of the same secrecy and level have the same depth
pub depth_same : (secret told : ℕ → Bool) (level known : ℕ → ℕ) (p : ℕ → ℕ) (sinks : List ℕ) → AllByRecursion (λ k. (secret (p k) ≡ told k) × (level (p k) ≡ known k)) sinks
    → depth_of secret level (map p sinks) ≡ depth_of told known sinks
depth_same secret told level known p [] h = refl
depth_same secret told level known p (k ∷ ks) h =
    ap₂ max (ap₂ (λ b l. cond b l 0) h.0.0 h.0.1) (depth_same secret told level known p ks h.1)
