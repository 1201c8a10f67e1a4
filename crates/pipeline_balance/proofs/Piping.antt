-- The pipeline of a graph, from its registers, its nodes and its ends.
use Rattle.std.proofs.Common.{◌≡◌, ◌<◌, ◌≤◌, ◌+◌, ◌^◌, ◌++◌, ℕ, Bool, List, length, map, get_or, refl, sym, ap, subst, ◌∙◌, arith}
use Rattle.std.proofs.lemmas.List.{get_or_append_left, get_or-append-add, length-map}
use Rattle.std.proofs.lemmas.Option.{slice_get_within}
use Rattle.logic_graph.specs.declared.nodes.XanNode.{XanNode}
use Rattle.share_wiring.specs.Wiring.{Wiring}
use Rattle.share_wiring.specs.Adds.{random_bits}
use Rattle.pipeline_balance.specs.declared.values.Value.{Value}
use Rattle.pipeline_balance.specs.declared.chains.Chain.{Chain}
use Rattle.pipeline_balance.specs.declared.chains.Layout.{Layout}
use Rattle.pipeline_balance.specs.Signals.{Signal, Carries}
use Rattle.pipeline_balance.specs.Pipelines.{Signals, IsClosed, IsPipeline}
use Rattle.pipeline_balance.specs.Shared.{Adds}
use Rattle.pipeline_balance.specs.Valued.{is_secret, size_of, wires_of, IsValue, signal}
use Rattle.pipeline_balance.specs.Chained.{value_at, chain_at, stage, at_level, places_of, AreSources, AreCarried, IsRead, secret_at, first_at, last_at, IsLayout, NodesMade, gadgets_before, IsFilled}
use Rattle.pipeline_balance.specs.Registered.{AreRegisters, HeldFrom, IsChosen, AreClosed}
use Rattle.pipeline_balance.specs.Piped.{node_at, machine_of, ReachDepth, built_signals, MakesPipeline}
use Rattle.pipeline_balance.proofs.Adding.{value_still}
use Rattle.pipeline_balance.proofs.Chaining.{has_values, read_value, read_kind, read_carried}
use Rattle.pipeline_balance.proofs.Registering.{held_stays, value_goes}

-- ---- behind the registers that are held

module _ (n : ℕ) (start mid : Wiring) (firsts held : List (Value n)) (registers : AreRegisters n mid firsts held) (adds : Adds n start mid 0 0 (λ cycles bits. Unit {0})) where
  pub sources_still : (values : List (Value n)) → AreSources n start values → AreSources n mid values
  sources_still values inside i lt = value_still n start mid (value_at values i) adds.extends (inside i lt)

  pub layout_still : (nodes : List XanNode) (inputs : List Bool) (layout : Layout) → IsLayout nodes inputs (map is_secret firsts) layout → IsLayout nodes inputs (map is_secret held) layout
  layout_still nodes inputs layout is = subst (λ ks. IsLayout nodes inputs ks layout) (sym registers.kinds) is

  pub random_still : (more : ℕ) → start.given + more ≤ length (random_bits start.ports) → mid.given + more ≤ length (random_bits mid.ports)
  random_still more room = (let given = adds.given in subst (λ ps. mid.given + more ≤ length (random_bits ps)) (sym adds.ports) (omega (arith, given, room)))

  pub gadgets_still : (more : ℕ) → start.gadgets + more ≤ 2 ^ 32 → mid.gadgets + more ≤ 2 ^ 32
  gadgets_still more room = (let begun = adds.begun in omega (arith, begun, room))

-- ---- behind the nodes

module _ (n : ℕ) (nodes : List XanNode) (inputs held : List (Value n)) (layout : Layout) (mid now : Wiring) (table : List (Chain n)) (filled : IsFilled n nodes inputs held layout mid now (length nodes) table) (depth : ℕ) where
  -- the ends can be read at the depth
  pub end_read : (sinks : List ℕ) → ReachDepth nodes layout depth sinks → (j : ℕ) → j < length sinks → IsRead n table (node_at sinks j) depth
  end_read sinks reach j lt =
      let k = node_at sinks j in
      let at = reach j lt in
      let count = filled.count in
      let below = at.0 in
      let known : k < length table = omega (arith, count, below) in
      let c = filled.chains k known in
      let begins = c.level_is in
      let reaches = c.reaches in
      let from = at.1 in
      let to = at.2 in
      record { known = known; from = omega (arith, begins, from); to = omega (arith, begins, reaches, to) }

  module _ (sinks : List ℕ) (reach : ReachDepth nodes layout depth sinks) (ends : List (Value n)) (each : length ends ≡ length sinks) (are : (j : ℕ) → j < length sinks → value_at ends j ≡ at_level table (node_at sinks j) depth) where
    has : (j : ℕ) → j < length sinks → IsRead n table (node_at sinks j) depth
    has j lt = end_read sinks reach j lt

    pub end_values : AreSources n now ends
    end_values j lt =
        let below : j < length sinks = omega (arith, each, lt) in
        let read = has j below in
        let k = node_at sinks j in
        subst (λ v. IsValue n now v) (sym (are j below))
        (read_value n table k depth read now (has_values n now (secret_at layout k) (first_at layout k) (last_at layout k) (chain_at table k) (filled.chains k read.known)))

    pub end_kind : (j : ℕ) → j < length sinks → is_secret (value_at ends j) ≡ secret_at layout (node_at sinks j)
    end_kind j lt =
        let read = has j lt in
        let k = node_at sinks j in
        let c = filled.chains k read.known in
        let order = c.in_order in
        let reaches = c.reaches in
        ap is_secret (are j lt) ∙ (read_kind n table k depth read now (has_values n now (secret_at layout k) (first_at layout k) (last_at layout k) (chain_at table k) c) ∙ c.kinds 0 (omega (arith, order, reaches)))

    end_carried : (cycles : ℕ) (bits : ℕ → ℕ → Bool) → AreCarried n table cycles bits → (j : ℕ) → j < length sinks
        → Carries cycles (chain_at table (node_at sinks j)).level depth (signal n bits (stage (chain_at table (node_at sinks j)) 0)) (signal n bits (value_at ends j))
    end_carried cycles bits carried j lt =
        subst (λ v. Carries cycles (chain_at table (node_at sinks j)).level depth (signal n bits (stage (chain_at table (node_at sinks j)) 0)) (signal n bits v)) (sym (are j lt))
        (read_carried n table (node_at sinks j) depth (has j lt) cycles bits carried)

  pub registers_still : (firsts : List (Value n)) → AreRegisters n mid firsts held → AreRegisters n now firsts held
  registers_still firsts registers = record { kinds = registers.kinds; values = λ i lt. value_still n mid now (value_at held i) filled.adds.extends (registers.values i lt); apart = registers.apart }

  pub held_still : HeldFrom n mid 0 held → HeldFrom n now 0 held
  held_still are r le lt = held_stays (size_of n (value_at held r)) mid now (wires_of (value_at held r)) filled.adds.extends (are r le lt)

  pub sources_on : (values : List (Value n)) → AreSources n mid values → AreSources n now values
  sources_on values inside i lt = value_still n mid now (value_at values i) filled.adds.extends (inside i lt)

-- ---- behind the registers that are closed

module _ (n : ℕ) (nodes : List XanNode) (inputs firsts held stored ends : List (Value n)) (outputs nexts : List ℕ) (layout : Layout) (start mid now new : Wiring) (load depth : ℕ) (table : List (Chain n))
    (holds : Adds n start mid 0 0 (λ cycles bits. Unit {0})) (filled : IsFilled n nodes inputs held layout mid now (length nodes) table) (closed : AreClosed n now new load firsts held stored (length held))
    (one_each : length held ≡ length nexts)
    (reach_out : ReachDepth nodes layout depth outputs) (each_out : length ends ≡ length outputs) (out_are : (j : ℕ) → j < length outputs → value_at ends j ≡ at_level table (node_at outputs j) depth)
    (reach_next : ReachDepth nodes layout depth nexts) (each_next : length stored ≡ length nexts) (next_are : (j : ℕ) → j < length nexts → value_at stored j ≡ at_level table (node_at nexts j) depth) where
  -- the signals of nodes and registers
  abbrev node_signal : (ℕ → ℕ → Bool) → ℕ → Signal
  node_signal bits k = signal n bits (stage (chain_at table k) 0)

  abbrev state_signal : (ℕ → ℕ → Bool) → ℕ → Signal
  state_signal bits r = signal n bits (value_at held r)

  abbrev signals : (ℕ → ℕ → Bool) → Signals
  signals bits = built_signals n inputs firsts ends load bits (node_signal bits) (state_signal bits)

  out_is : (o : ℕ) → o < length outputs → get_or (outputs ++ nexts) o 0 ≡ node_at outputs o
  out_is o lt = get_or_append_left outputs nexts 0 o lt

  next_is : (r : ℕ) → get_or (outputs ++ nexts) (length outputs + r) 0 ≡ node_at nexts r
  next_is r = get_or-append-add outputs nexts r 0

  piped : (cycles : ℕ) (bits : ℕ → ℕ → Bool) → AreCarried n table cycles bits → NodesMade n nodes inputs held table cycles bits
      → ((r : ℕ) → r < length held → IsChosen cycles bits load (signal n bits (value_at held r)) (signal n bits (value_at firsts r)) (signal n bits (value_at stored r)))
      → IsPipeline (machine_of nodes (length inputs) outputs nexts) (places_of n table).level depth cycles (signals bits)
  piped cycles bits carried made chosen = record {
    made = λ k node at. (
        let count = filled.count in
        let within = slice_get_within nodes k node at in
        made (signals bits) (record { given = λ i t lt. refl; state = λ r t lt. refl }) k node (omega (arith, count, within)) at);
    closed = λ r lt. subst (λ k. IsClosed cycles depth (places_of n table).level (signals bits) k r) (sym (next_is r))
        (record {
          late = signal n bits (value_at stored r);
          late_is = end_carried n nodes inputs held layout mid now table filled depth nexts reach_next stored each_next next_are cycles bits carried r lt;
          stores = chosen r (omega (arith, one_each, lt));
        });
    led_out = λ o lt. subst (λ k. Carries cycles ((places_of n table).level k) depth (node_signal bits k) (signal n bits (value_at ends o))) (sym (out_is o lt))
        (end_carried n nodes inputs held layout mid now table filled depth outputs reach_out ends each_out out_are cycles bits carried o lt);
  }

  pub makes_pipeline : MakesPipeline n start new (machine_of nodes (length inputs) outputs nexts) depth (gadgets_before (secret_at layout) nodes (length nodes)) inputs firsts load ends
  makes_pipeline =
      let before = end_values n nodes inputs held layout mid now table filled depth outputs reach_out ends each_out out_are in
      let begun = holds.begun in
      let begun' = filled.adds.begun in
      let begun'' = closed.goes.begun in
      let given = holds.given in
      let given' = filled.adds.given in
      let given'' = closed.goes.given in
      record {
        level = (places_of n table).level;
        node = node_signal;
        state = state_signal;
        pipeline = λ cycles bits run. (
            let last = closed.goes.value cycles bits run in
            let made = filled.adds.value cycles bits last.0 in
            let first = holds.value cycles bits made.0 in
            (first.0, piped cycles bits made.1.0 made.1.1 last.1));
        one_each = each_out;
        values = λ i lt. value_goes n now new _ (value_at ends i) closed.goes (before i lt);
        shares = λ k i w h. closed.goes.shares k i w (filled.adds.extends.shares k i w (holds.extends.shares k i w h));
        publics = λ w h. closed.goes.publics w (filled.adds.extends.publics w (holds.extends.publics w h));
        ports = closed.goes.ports ∙ (filled.adds.ports ∙ holds.ports);
        begun = omega (arith, begun, begun', begun'');
        given = omega (arith, given, given', given'');
        sound = λ h. closed.goes.sound (filled.adds.sound (holds.sound h));
      }

pub map_length : (n : ℕ) (xs ys : List (Value n)) → map is_secret xs ≡ map is_secret ys → length xs ≡ length ys
map_length n xs ys e = sym (length-map xs is_secret) ∙ (ap (λ (ks : List Bool). length ks) e ∙ length-map ys is_secret)
