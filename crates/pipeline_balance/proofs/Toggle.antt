-- The example is a pipeline, and every stimulus drives it.
use Rattle.std.proofs.Common.{◌≡◌, ◌<◌, ◌+◌, ◌*◌, ◌-◌, ◌/◌, ◌%◌, ◌&&◌, ℕ, zero, suc, Bool, true, List, [], ◌∷◌, Some, slice_get, IsTrue, refl, ap, ap₂, ◌∙◌, subst, arith, inl, inr, mul_comm}
use Rattle.std.proofs.lemmas.Bool.{and_parts}
use Rattle.std.proofs.lemmas.Nat.{div-mul-add, mod-mul-add}
use Rattle.agm_net.specs.Formula.{xor}
use Rattle.logic_graph.specs.Nodes.{xan_reads_before}
use Rattle.logic_graph.specs.declared.nodes.XanNode.{XanNode}
use Rattle.logic_graph.specs.declared.nodes.XanNode.TheVariants.{Input, Q, Xor, And}
use Rattle.level_plan.specs.Passes.{has_source}
use Rattle.pipeline_balance.specs.Machines.{IsMachine, out_node, next_node}
use Rattle.pipeline_balance.specs.Signals.{Signal, Carries, Products}
use Rattle.pipeline_balance.specs.Pipelines.{Signals, IsJoined, IsGadget, IsMade, IsClosed, IsPipeline, IsDriven, input_cycle}
use Rattle.pipeline_balance.specs.Toggle.{toggle, toggle_level, delayed, product, stages, toggle_signals, fed, driven_toggle}

-- a test of each node of a list, with its number
abbrev all_numbered : (ℕ → XanNode → Bool) → ℕ → List XanNode → Bool
all_numbered test i [] = true
all_numbered test i (n ∷ ns) = test i n && all_numbered test (i + 1) ns

one_numbered : (test : ℕ → XanNode → Bool) (i : ℕ) (ns : List XanNode) → IsTrue (all_numbered test i ns) → (k : ℕ) (n : XanNode) → slice_get ns k ≡ Some n → IsTrue (test (i + k) n)
one_numbered test i [] h k n at = absurd (cc)
one_numbered test i (m ∷ ns) h zero n at =
    let same : m ≡ n = cc in
    let here : i ≡ i + 0 = omega arith in
    subst (λ j. IsTrue (test j n)) here (subst (λ x. IsTrue (test i x)) same (and_parts (test i m) (all_numbered test (i + 1) ns) h).0)
one_numbered test i (m ∷ ns) h (suc k) n at =
    let here : (i + 1) + k ≡ i + suc k = omega arith in
    subst (λ j. IsTrue (test j n)) here (one_numbered test (i + 1) ns (and_parts (test i m) (all_numbered test (i + 1) ns) h).1 k n at)

numbered : (test : ℕ → XanNode → Bool) (ns : List XanNode) → IsTrue (all_numbered test 0 ns) → (k : ℕ) (n : XanNode) → slice_get ns k ≡ Some n → IsTrue (test k n)
numbered test ns h k n at = let here : 0 + k ≡ k = omega arith in subst (λ j. IsTrue (test j n)) here (one_numbered test 0 ns h k n at)

pub toggle_is : IsMachine toggle
toggle_is = record {
  in_order = numbered xan_reads_before toggle.nodes refl;
  sourced = numbered (λ k. has_source 2 1) toggle.nodes refl;
  out_within = out;
  next_within = next;
}
  where
    out : (o : ℕ) → o < 1 → out_node toggle o < 5
    out zero lt = omega arith
    out (suc o) lt = absurd (omega arith)

    next : (r : ℕ) → r < 1 → next_node toggle r < 5
    next zero lt = omega arith
    next (suc r) lt = absurd (omega arith)

-- a delay register holds what stood before it
delays : (x : Signal) (t : ℕ) → delayed x (t + 1) ≡ x t
delays x t = let next : t + 1 ≡ suc t = omega arith in ap (delayed x) next

products : (cycles : ℕ) (late early : Signal) → Products cycles late early (product late early)
products cycles late early t lt =
    let two : t + 2 ≡ (t + 1) + 1 = omega arith in
    ap (product late early) two ∙ (delays (λ u. late u && delayed early u) (t + 1) ∙ ap (λ b. late (t + 1) && b) (delays early t))

here : (cycles p : ℕ) (x : Signal) → Carries cycles p p x x
here cycles p x = record { not_before = omega arith; same = λ t lt. refl }

module _ (cycles : ℕ) (x y initial load : Signal) where
  abbrev s : Signals
  s = toggle_signals x y initial load

  -- the third stage holds what the first held two cycles before
  two_behind : Carries cycles 0 2 (λ t. (stages x y initial load t).first) (λ t. (stages x y initial load t).third)
  two_behind = record {
    not_before = omega arith;
    same = λ t lt. (
        let two : t + 2 ≡ suc (suc t) = omega arith in
        let none : t ≡ t + 0 = omega arith in
        ap (λ u. (stages x y initial load u).third) two ∙ ap (λ u. (stages x y initial load u).first) none);
  }

  made : (k : ℕ) (n : XanNode) → slice_get toggle.nodes k ≡ Some n → IsMade cycles toggle_level s k n
  made zero n at = let same : Input 0 ≡ n = cc in subst (λ m. IsMade cycles toggle_level s 0 m) same (refl, λ t lt. refl)
  made (suc zero) n at = let same : Input 1 ≡ n = cc in subst (λ m. IsMade cycles toggle_level s 1 m) same (refl, λ t lt. refl)
  made (suc (suc zero)) n at = let same : Q 0 ≡ n = cc in subst (λ m. IsMade cycles toggle_level s 2 m) same (refl, λ t lt. refl)
  made (suc (suc (suc zero))) n at =
      let same : And 0 1 ≡ n = cc in
      let gadget : IsGadget cycles toggle_level s.node 3 0 1 = record {
        base = 0;
        two_above = refl;
        late = delayed x;
        early = y;
        late_is = record { not_before = omega arith; same = λ t lt. delays x t ∙ (let none : t ≡ t + 0 = omega arith in ap x none) };
        early_is = here cycles 0 y;
        products = products cycles (delayed x) y;
      } in
      subst (λ m. IsMade cycles toggle_level s 3 m) same (inr (inl gadget))
  made (suc (suc (suc (suc zero)))) n at =
      let same : Xor 2 3 ≡ n = cc in
      let joined : IsJoined cycles toggle_level s.node xor 4 2 3 = record {
        left = λ t. (stages x y initial load t).third;
        right = product (delayed x) y;
        left_is = two_behind;
        right_is = here cycles 2 (product (delayed x) y);
        joins = λ t lt. refl;
      } in
      subst (λ m. IsMade cycles toggle_level s 4 m) same joined
  made (suc (suc (suc (suc (suc k))))) n at = absurd (cc)

  pub toggle_runs : IsPipeline toggle toggle_level 2 cycles s
  toggle_runs = record { made = made; closed = closed; led_out = led }
    where
      closed : (r : ℕ) → r < 1 → IsClosed cycles 2 toggle_level s (next_node toggle r) r
      closed zero lt = record {
        late = s.node 4;
        late_is = here cycles 2 (s.node 4);
        stores = λ t lt. let next : t + 1 ≡ suc t = omega arith in ap (s.state 0) next;
      }
      closed (suc r) lt = absurd (omega arith)

      led : (o : ℕ) → o < 1 → Carries cycles (toggle_level (out_node toggle o)) 2 (s.node (out_node toggle o)) (s.output o)
      led zero lt = two_behind
      led (suc o) lt = absurd (omega arith)

-- a step's cycle tells its stream and its number
turn : (stream k : ℕ) → stream < 3 → ((input_cycle 2 stream k - 1) % 3 ≡ stream) × ((input_cycle 2 stream k - 1) / 3 ≡ k)
turn stream k lt =
    let swapped : 3 * k ≡ k * 3 = mul_comm 3 k in
    let back : input_cycle 2 stream k - 1 ≡ k * 3 + stream = omega arith in
    (ap (λ n. n % 3) back ∙ mod-mul-add k 3 stream lt, ap (λ n. n / 3) back ∙ div-mul-add k 3 stream lt)

pub toggle_is_driven : (initial : (stream r : ℕ) → Bool) (inputs : (stream k i : ℕ) → Bool) (steps stream : ℕ) → stream < 3
    → IsDriven toggle 2 (3 * steps + 3) (driven_toggle initial inputs) stream steps (initial stream) (inputs stream)
toggle_is_driven initial inputs steps stream lt = record {
  one_of = lt;
  load = λ t within. refl;
  starts = starts;
  feeds = feeds;
  is_read = λ k less. omega arith;
}
  where
    starts : (r : ℕ) → 0 < steps → r < 1 → initial stream 0 ≡ initial stream r
    starts zero some one = refl
    starts (suc r) some one = absurd (omega arith)

    at : (i k : ℕ) → fed inputs i (input_cycle 2 stream k) ≡ inputs stream k i
    at i k = let t = turn stream k lt in ap₂ (λ a b. inputs a b i) t.0 t.1

    feeds : (k i : ℕ) → k < steps → i < 2 → (driven_toggle initial inputs).given i (input_cycle 2 stream k) ≡ inputs stream k i
    feeds k zero less two = at 0 k
    feeds k (suc zero) less two = at 1 k
    feeds k (suc (suc i)) less two = absurd (omega arith)
