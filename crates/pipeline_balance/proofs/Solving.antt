-- The values of a pipeline's nodes, each in the cycle that is its level later, solve the equations of the graph.
use Rattle.std.proofs.Common.{◌≡◌, ◌<◌, ◌+◌, ◌*◌, ◌&&◌, ℕ, zero, suc, Bool, true, false, not, length, slice_get, get_or, Some, IsTrue, nat_lt, refl, sym, ap, ap₂, ◌∙◌, arith, inl, inr, mul-suc}
use Rattle.std.proofs.lemmas.Bool.{and_parts, ltb-true, lt-ltb, le-ltb}
use Rattle.std.proofs.lemmas.Option.{slice_get-get_or}
use Rattle.agm_net.specs.Formula.{xor}
use Rattle.logic_graph.specs.Nodes.{xan_reads_before}
use Rattle.logic_graph.specs.declared.nodes.XanNode.{XanNode}
use Rattle.logic_graph.specs.declared.nodes.XanNode.TheVariants.{Zero, One, Input, Q, Not, Xor, And}
use Rattle.logic_graph.specs.Machines.{Solves, xan_value}
use Rattle.level_plan.specs.Passes.{has_source}
use Rattle.pipeline_balance.specs.Machines.{Machine, IsMachine, IsMachineRun, out_node, next_node}
use Rattle.pipeline_balance.specs.Signals.{Signal, Carries, selected}
use Rattle.pipeline_balance.specs.Pipelines.{Signals, IsJoined, IsGadget, IsMade, IsPipeline, IsDriven, input_cycle}

-- what stands in a node in the cycle that is its level after t
abbrev pub at_level : (ℕ → ℕ) → (ℕ → Signal) → ℕ → ℕ → Bool
at_level level node t k = node k (t + level k)

-- an operation on signals that are carried to the node's level
joined : (cycles : ℕ) (level : ℕ → ℕ) (node : ℕ → Signal) (op : Bool → Bool → Bool) (k a b t : ℕ) → IsJoined cycles level node op k a b → t + level k < cycles
    → (t + level a < cycles) × (t + level b < cycles) × (at_level level node t k ≡ op (at_level level node t a) (at_level level node t b))
joined cycles level node op k a b t j lt =
    let la = j.left_is.not_before in
    let lb = j.right_is.not_before in
    (omega arith, omega arith, j.joins (t + level k) lt ∙ ap₂ op (j.left_is.same t lt) (j.right_is.same t lt))

-- a gadget
multiplied : (cycles : ℕ) (level : ℕ → ℕ) (node : ℕ → Signal) (k a b t : ℕ) → IsGadget cycles level node k a b → t + level k < cycles
    → (t + level a < cycles) × (t + level b < cycles) × (at_level level node t k ≡ at_level level node t a && at_level level node t b)
multiplied cycles level node k a b t g lt =
    let la = g.late_is.not_before in
    let lb = g.early_is.not_before in
    let two = g.two_above in
    let here : t + level k ≡ (t + g.base) + 2 = omega arith in
    let one : (t + g.base) + 1 ≡ t + (g.base + 1) = omega arith in (
      omega arith,
      omega arith,
      ap (node k) here ∙ (g.products (t + g.base) (omega arith)
          ∙ ap₂ (λ x y. x && y) (ap g.late one ∙ g.late_is.same t (omega arith)) (g.early_is.same t (omega arith))),
    )

and_swap : (x y : Bool) → (x && y) ≡ (y && x)
and_swap false false = refl
and_swap false true = refl
and_swap true false = refl
and_swap true true = refl

module _ (inputs_count registers_count cycles : ℕ) (level : ℕ → ℕ) (s : Signals) (t : ℕ) (inputs registers values : ℕ → Bool)
    (feeds : (i : ℕ) → i < inputs_count → s.given i t ≡ inputs i) (holds : (r : ℕ) → r < registers_count → s.state r t ≡ registers r) where
  -- a node has its value where its operands have theirs
  by_node : (k : ℕ) (n : XanNode) → IsMade cycles level s k n → IsTrue (xan_reads_before k n) → IsTrue (has_source inputs_count registers_count n)
      → ((j : ℕ) → j < k → t + level j < cycles → at_level level s.node t j ≡ values j) → t + level k < cycles → at_level level s.node t k ≡ xan_value inputs registers values n
  by_node k Zero made reads known below lt = made (t + level k) lt
  by_node k One made reads known below lt = made (t + level k) lt
  by_node k (Input i) made reads known below lt =
      let level_is = made.0 in
      let here : t + level k ≡ t = omega arith in
      made.1 (t + level k) lt ∙ (ap (s.given i) here ∙ feeds i (ltb-true i inputs_count known))
  by_node k (Q r) made reads known below lt =
      let level_is = made.0 in
      let here : t + level k ≡ t = omega arith in
      made.1 (t + level k) lt ∙ (ap (s.state r) here ∙ holds r (ltb-true r registers_count known))
  by_node k (Not a) made reads known below lt =
      let level_is = made.0 in
      let here : t + level k ≡ t + level a = omega arith in
      made.1 (t + level k) lt ∙ ap not (ap (s.node a) here ∙ below a (ltb-true a k reads) (omega arith))
  by_node k (Xor a b) made reads known below lt =
      let both = and_parts (nat_lt a k) (nat_lt b k) reads in
      let parts = joined cycles level s.node xor k a b t made lt in
      parts.2 ∙ ap₂ xor (below a (ltb-true a k both.0) parts.0) (below b (ltb-true b k both.1) parts.1)
  by_node k (And a b) made reads known below lt =
      let both = and_parts (nat_lt a k) (nat_lt b k) reads in
      elim made [
        | inl linear ↦ (
            let parts = joined cycles level s.node (λ x y. x && y) k a b t linear lt in
            parts.2 ∙ ap₂ (λ x y. x && y) (below a (ltb-true a k both.0) parts.0) (below b (ltb-true b k both.1) parts.1))
        | inr gadget ↦ elim gadget [
          | inl first ↦ (
              let parts = multiplied cycles level s.node k a b t first lt in
              parts.2 ∙ ap₂ (λ x y. x && y) (below a (ltb-true a k both.0) parts.0) (below b (ltb-true b k both.1) parts.1))
          | inr second ↦ (
              let parts = multiplied cycles level s.node k b a t second lt in
              parts.2 ∙ (ap₂ (λ x y. x && y) (below b (ltb-true b k both.1) parts.0) (below a (ltb-true a k both.0) parts.1) ∙ and_swap (values b) (values a)))
        ]
      ]

module _ (m : Machine) (level : ℕ → ℕ) (depth cycles : ℕ) (s : Signals) (machine : IsMachine m) (pipeline : IsPipeline m level depth cycles s) where
  -- the nodes below a bound have their values
  below : (t : ℕ) (inputs registers values : ℕ → Bool) → Solves m.nodes inputs registers values
      → ((i : ℕ) → i < m.inputs → s.given i t ≡ inputs i) → ((r : ℕ) → r < m.registers → s.state r t ≡ registers r)
      → (bound k : ℕ) → k < bound → k < length m.nodes → t + level k < cycles → s.node k (t + level k) ≡ values k
  below t inputs registers values solves feeds holds zero k small within lt = absurd (omega arith)
  below t inputs registers values solves feeds holds (suc bound) k small within lt =
      let n = get_or m.nodes k Zero in
      let at : slice_get m.nodes k ≡ Some n = slice_get-get_or m.nodes k Zero within in
      by_node m.inputs m.registers cycles level s t inputs registers values feeds holds k n (pipeline.made k n at) (machine.in_order k n at) (machine.sourced k n at)
      (λ j before lj. below t inputs registers values solves feeds holds bound j (omega arith) (omega arith) lj) lt
      ∙ sym (solves k n at)

  -- the nodes have the values of the graph for the sources of cycle t
  pub solved : (t : ℕ) (inputs registers values : ℕ → Bool) → Solves m.nodes inputs registers values
      → ((i : ℕ) → i < m.inputs → s.given i t ≡ inputs i) → ((r : ℕ) → r < m.registers → s.state r t ≡ registers r)
      → (k : ℕ) → k < length m.nodes → t + level k < cycles → s.node k (t + level k) ≡ values k
  solved t inputs registers values solves feeds holds k within lt = below t inputs registers values solves feeds holds (suc k) k (omega arith) within lt

  -- and what is carried to the depth stands there
  carried : (t : ℕ) (inputs registers values : ℕ → Bool) → Solves m.nodes inputs registers values
      → ((i : ℕ) → i < m.inputs → s.given i t ≡ inputs i) → ((r : ℕ) → r < m.registers → s.state r t ≡ registers r)
      → (k : ℕ) (x : Signal) → k < length m.nodes → Carries cycles (level k) depth (s.node k) x → t + depth < cycles → x (t + depth) ≡ values k
  carried t inputs registers values solves feeds holds k x within carries lt =
      let le = carries.not_before in
      carries.same t lt ∙ solved t inputs registers values solves feeds holds k within (omega arith)

-- the initial value, or the other
takes_initial : (load initial x : Bool) → load ≡ true → selected load initial x ≡ initial
takes_initial false initial x is = absurd (cc)
takes_initial true false false is = refl
takes_initial true false true is = refl
takes_initial true true false is = refl
takes_initial true true true is = refl

takes_other : (load initial x : Bool) → load ≡ false → selected load initial x ≡ x
takes_other false initial false is = refl
takes_other false initial true is = refl
takes_other true initial x is = absurd (cc)

module _ (m : Machine) (level : ℕ → ℕ) (depth cycles : ℕ) (s : Signals) (stream steps : ℕ) (initial : ℕ → Bool) (inputs states values : ℕ → ℕ → Bool)
    (machine : IsMachine m) (pipeline : IsPipeline m level depth cycles s) (driven : IsDriven m depth cycles s stream steps initial inputs)
    (run : IsMachineRun m steps initial inputs states values) where
  -- in the input cycle of each step the registers hold their values
  states_right : (k r : ℕ) → k < steps → r < m.registers → s.state r (input_cycle depth stream k) ≡ states k r
  states_right zero r lt known =
      let closed = pipeline.closed r known in
      let one_of = driven.one_of in
      let read = driven.is_read zero lt in
      let here : input_cycle depth stream zero ≡ stream + 1 = omega arith in
      let soon : stream + 1 < cycles = omega arith in
      let load : s.load stream ≡ true = driven.load stream (omega arith) ∙ lt-ltb stream (depth + 1) one_of in
      ap (s.state r) here
      ∙ (closed.stores stream soon
      ∙ (takes_initial (s.load stream) (s.initial r stream) (closed.late stream) load
      ∙ (driven.starts r lt known ∙ sym (run.begins r lt known))))
  states_right (suc k) r lt known =
      let closed = pipeline.closed r known in
      let one_of = driven.one_of in
      let now : k < steps = omega arith in
      let read = driven.is_read (suc k) lt in
      let spread : (depth + 1) * suc k ≡ (depth + 1) * k + (depth + 1) = mul-suc (depth + 1) k in
      let here : input_cycle depth stream (suc k) ≡ (input_cycle depth stream k + depth) + 1 = omega arith in
      let soon : (input_cycle depth stream k + depth) + 1 < cycles = omega arith in
      let load : s.load (input_cycle depth stream k + depth) ≡ false = driven.load (input_cycle depth stream k + depth) (omega arith) ∙ le-ltb (input_cycle depth stream k + depth) (depth + 1) (omega arith) in
      let next : suc k ≡ k + 1 = omega arith in
      ap (s.state r) here
      ∙ (closed.stores (input_cycle depth stream k + depth) soon
      ∙ (takes_other (s.load (input_cycle depth stream k + depth)) (s.initial r (input_cycle depth stream k + depth)) (closed.late (input_cycle depth stream k + depth)) load
      ∙ (carried m level depth cycles s machine pipeline (input_cycle depth stream k) (inputs k) (states k) (values k) (run.solves k now)
      (λ i li. driven.feeds k i now li) (λ q lq. states_right k q now lq) (next_node m r) closed.late (machine.next_within r known) closed.late_is (omega arith)
      ∙ (sym (run.goes_on k r (omega arith) known) ∙ ap (λ j. states j r) (sym next)))))

  -- and in the reading cycle of each step the outputs have theirs
  pub outputs_right : (k : ℕ) → k < steps → (o : ℕ) → o < m.outputs → s.output o (input_cycle depth stream k + depth) ≡ values k (out_node m o)
  outputs_right k lt o known =
      carried m level depth cycles s machine pipeline (input_cycle depth stream k) (inputs k) (states k) (values k) (run.solves k lt)
      (λ i li. driven.feeds k i lt li) (λ q lq. states_right k q lt lq) (out_node m o) (s.output o) (machine.out_within o known) (pipeline.led_out o known)
      (driven.is_read k lt)
