-- The masked net of a pipeline, from what its parts say.
use Rattle.std.proofs.Common.{◌≡◌, ◌<◌, ◌≤◌, ◌+◌, ◌-◌, ◌*◌, ◌/◌, ◌^◌, ◌++◌, ℕ, zero, suc, Bool, false, not, List, [], ◌∷◌, Some, map, filter, length, length-append, flat_map, slice_get, get_or, count_by, IsTrue, refl, sym, ap, ap₂, subst, subst₂, ◌∙◌, arith, zero-add}
use Rattle.std.proofs.lemmas.Bool.{lt-ltb}
use Rattle.std.proofs.lemmas.List.{length-map, get_or_append_left, get_or-append-add}
use Rattle.std.specs.Str.{bytes_eq}
use Rattle.std.proofs.lemmas.Option.{get_or_from_slice_get}
use Rattle.agm_net.specs.Loop.{HasNoLoop}
use Rattle.agm_net.specs.Plain.{PlainNet, is_input, input_bits}
use Rattle.agm_net.specs.WellFormed.{WellFormed}
use Rattle.agm_net.specs.declared.mark.Mark.{Mark}
use Rattle.agm_net.specs.declared.port.Port.{Port}
use Rattle.agm_net.proofs.Lists.{items_same, get_image}
use Rattle.logic_graph.specs.GraphOf.{IsGraphOf, output_bits}
use Rattle.logic_graph.specs.Machines.{SourcesAmong}
use Rattle.logic_graph.specs.Settled.{bit_of}
use Rattle.logic_graph.specs.declared.graphs.Graph.{Graph}
use Rattle.logic_graph.specs.declared.graphs.Xan.{Xan}
use Rattle.logic_graph.specs.declared.nodes.XanNode.{XanNode}
use Rattle.logic_graph.specs.declared.nodes.XanNode.TheVariants.{Zero, One, Input, Q, Not, Xor, And}
use Rattle.secrecy_spread.specs.SecretsOf.{SecretsOf}
use Rattle.secrecy_spread.specs.declared.secrets.Secrets.{Secrets}
use Rattle.level_plan.specs.Passes.{has_source}
use Rattle.level_plan.specs.declared.plans.Plan.{Plan}
use Rattle.share_wiring.specs.Adds.{random_bits}
use Rattle.share_wiring.specs.Built.{IsNew}
use Rattle.share_wiring.specs.Recombine.{port_value, is_shared}
use Rattle.share_wiring.specs.Same.{TellsSecrets, Same}
use Rattle.share_wiring.specs.Shape.{Shape, header_of}
use Rattle.share_wiring.specs.Wiring.{Wiring, net_of}
use Rattle.share_wiring.specs.declared.report.Mode.{Mode}
use Rattle.share_wiring.specs.declared.report.Report.{Report}
use Rattle.pipeline_balance.specs.declared.chains.Layout.{Layout}
use Rattle.pipeline_balance.specs.declared.values.Value.{Value}
use Rattle.pipeline_balance.specs.Apart.{FitsLimits}
use Rattle.pipeline_balance.specs.Assembled.{Finishes, HasPortSignals}
use Rattle.pipeline_balance.specs.Chained.{value_at, secret_at, first_at, last_at, IsLayout, gadgets_before}
use Rattle.pipeline_balance.specs.Entered.{entered_headers, IsEntered}
use Rattle.pipeline_balance.specs.LedOut.{output_names, AreOutputs, IsLedOut}
use Rattle.pipeline_balance.specs.Machines.{Machine, IsMachine}
use Rattle.pipeline_balance.specs.Masked.{output_values, IsPipelined, IsPipeReport}
use Rattle.pipeline_balance.specs.Originals.{IsMachineOf}
use Rattle.pipeline_balance.specs.Piped.{node_at, machine_of, ReachDepth, built_signals, MakesPipeline}
use Rattle.pipeline_balance.specs.Pipelines.{Signals}
use Rattle.pipeline_balance.specs.Ports.{value_row}
use Rattle.pipeline_balance.specs.Ready.{CanBePiped, FitsOrder, IsLaidOut}
use Rattle.pipeline_balance.specs.Reporting.{pipe_report}
use Rattle.pipeline_balance.specs.Sound.{IsComplete}
use Rattle.pipeline_balance.specs.Valued.{is_secret, signal}
use Rattle.pipeline_balance.proofs.Assembled.{assembled}
use Rattle.pipeline_balance.proofs.Flags.{only_secrets, port_named, inputs_are, outputs_public, nexts_public, flags_long}
use Rattle.pipeline_balance.proofs.Masked.{is_same}
use Rattle.pipeline_balance.proofs.Originals.{found}
use Rattle.pipeline_balance.proofs.Staying.{inputs_stay, initial_stay, load_stays}
use Rattle.pipeline_balance.proofs.Widths.{widths_right}

-- a graph's sources are those of its net
pub sourced : (net : PlainNet) (graph : Graph) (marks : List Mark) (s : Secrets) (xan : Xan) → IsGraphOf net graph → SecretsOf net graph marks s → SourcesAmong graph xan
    → (k : ℕ) (n : XanNode) → slice_get xan.nodes k ≡ Some n → IsTrue (has_source (length s.inputs) (length s.registers) n)
sourced net graph marks s xan graph_of of among k Zero at = refl
sourced net graph marks s xan graph_of of among k One at = refl
sourced net graph marks s xan graph_of of among k (Input i) at =
    let there = among.inputs k i at in
    let lt = graph_of.input_nodes there.0 i there.1 in
    let many = of.inputs.one_each in
    lt-ltb i (length s.inputs) (omega (arith, lt, many))
sourced net graph marks s xan graph_of of among k (Q r) at =
    let there = among.registers k r at in
    let lt = graph_of.register_nodes there.0 r there.1 in
    let many = of.registers.one_each in
    let qs = length-map net.registers (λ x. x.q) in
    lt-ltb r (length s.registers) (omega (arith, lt, many, qs))
sourced net graph marks s xan graph_of of among k (Not a) at = refl
sourced net graph marks s xan graph_of of among k (Xor a b) at = refl
sourced net graph marks s xan graph_of of among k (And a b) at = refl

-- an order's pairs
pairs : (gadgets order n : ℕ) → 1 ≤ order → order ≤ 7 → order + 1 ≡ n → gadgets * (n * (n - 1) / 2) ≡ gadgets * order * (order + 1) / 2
pairs g zero n a b size = absurd (omega (arith, a))
pairs g (suc zero) n a b size = subst (λ m. g * (m * (m - 1) / 2) ≡ g * 1 * (1 + 1) / 2) size (omega arith)
pairs g (suc (suc zero)) n a b size = subst (λ m. g * (m * (m - 1) / 2) ≡ g * 2 * (2 + 1) / 2) size (omega arith)
pairs g (suc (suc (suc zero))) n a b size = subst (λ m. g * (m * (m - 1) / 2) ≡ g * 3 * (3 + 1) / 2) size (omega arith)
pairs g (suc (suc (suc (suc zero)))) n a b size = subst (λ m. g * (m * (m - 1) / 2) ≡ g * 4 * (4 + 1) / 2) size (omega arith)
pairs g (suc (suc (suc (suc (suc zero))))) n a b size = subst (λ m. g * (m * (m - 1) / 2) ≡ g * 5 * (5 + 1) / 2) size (omega arith)
pairs g (suc (suc (suc (suc (suc (suc zero)))))) n a b size = subst (λ m. g * (m * (m - 1) / 2) ≡ g * 6 * (6 + 1) / 2) size (omega arith)
pairs g (suc (suc (suc (suc (suc (suc (suc zero))))))) n a b size = subst (λ m. g * (m * (m - 1) / 2) ≡ g * 7 * (7 + 1) / 2) size (omega arith)
pairs g (suc (suc (suc (suc (suc (suc (suc (suc d)))))))) n a b size = absurd (omega (arith, b))

pub few_gadgets : (g order : ℕ) → 1 ≤ order → order ≤ 7 → g * order * (order + 1) / 2 ≤ 65536 → g ≤ 65536
few_gadgets g zero a b few = absurd (omega (arith, a))
few_gadgets g (suc zero) a b few = omega (arith, few)
few_gadgets g (suc (suc zero)) a b few = omega (arith, few)
few_gadgets g (suc (suc (suc zero))) a b few = omega (arith, few)
few_gadgets g (suc (suc (suc (suc zero)))) a b few = omega (arith, few)
few_gadgets g (suc (suc (suc (suc (suc zero))))) a b few = omega (arith, few)
few_gadgets g (suc (suc (suc (suc (suc (suc zero)))))) a b few = omega (arith, few)
few_gadgets g (suc (suc (suc (suc (suc (suc (suc zero))))))) a b few = omega (arith, few)
few_gadgets g (suc (suc (suc (suc (suc (suc (suc (suc d)))))))) a b few = absurd (omega (arith, b))

-- a value's bit in a row of values
row_bit : (n : ℕ) (bits : ℕ → ℕ → Bool) (t : ℕ) (values : List (Value n)) (i : ℕ) → i < length values → bit_of (value_row n bits t values) i ≡ signal n bits (value_at values i) t
row_bit n bits t [] i lt = absurd (omega (arith, lt))
row_bit n bits t (v ∷ vs) zero lt = refl
row_bit n bits t (v ∷ vs) (suc i) lt = row_bit n bits t vs i (omega (arith, lt))

kind_at : (n : ℕ) (values : List (Value n)) (i : ℕ) → get_or (map is_secret values) i false ≡ is_secret (value_at values i)
kind_at n [] i = refl
kind_at n (v ∷ vs) zero = refl
kind_at n (v ∷ vs) (suc i) = kind_at n vs i

-- what was made of slices
pub made_of : (n : ℕ) (b1 b2 : Wiring) (outputs nexts : List ℕ) (layout : Layout) (depth load : ℕ) (values : List (Value n)) (ns nodes : List XanNode) (is inputs fs firsts : List (Value n))
    → ns ≡ nodes → is ≡ inputs → fs ≡ firsts → MakesPipeline n b1 b2 (machine_of ns (length is) outputs nexts) depth (gadgets_before (secret_at layout) ns (length ns)) is fs load values
    → MakesPipeline n b1 b2 (machine_of nodes (length inputs) outputs nexts) depth (gadgets_before (secret_at layout) nodes (length nodes)) inputs firsts load values
made_of n b1 b2 outputs nexts layout depth load values ns nodes is inputs fs firsts a b c made =
    subst (λ x. MakesPipeline n b1 b2 (machine_of x (length inputs) outputs nexts) depth (gadgets_before (secret_at layout) x (length x)) inputs firsts load values) a
    (subst₂ (λ x y. MakesPipeline n b1 b2 (machine_of ns (length x) outputs nexts) depth (gadgets_before (secret_at layout) ns (length ns)) x y load values) b c made)

module _ (n : ℕ) (net : PlainNet) (marks : List Mark) (graph : Graph) (s : Secrets) (xan : Xan) (plan : Plan) (layout : Layout) (mode : Mode) (order : ℕ) (report : Report)
    (can : CanBePiped net marks graph s xan plan) (fits : FitsOrder s plan order) (laid : IsLaidOut xan s plan layout) (report_is : report ≡ pipe_report s plan net.ports mode order) (size : order + 1 ≡ n) where
  well : WellFormed net
  well = (let names = can.names in names.well)

  order_is : report.order ≡ order
  order_is = ap (λ (r : Report). r.order) report_is

  gadgets_are : report.gadgets ≡ plan.gadgets
  gadgets_are = ap (λ (r : Report). r.gadgets) report_is

  random_is : report.random ≡ plan.gadgets * order * (order + 1) / 2
  random_is = ap (λ (r : Report). r.random) report_is

  pub many_registers : length s.registers ≡ length net.registers
  many_registers = (let secrets = can.secrets in let each = secrets.registers.one_each in each ∙ length-map net.registers (λ r. r.q))

  many_inputs : length s.inputs ≡ length (input_bits net)
  many_inputs = (let secrets = can.secrets in secrets.inputs.one_each)

  pub secret_count : report.secret_registers ≡ count_by (λ b. b) s.registers
  secret_count = ap (λ (r : Report). r.secret_registers) report_is

  pub public_count : report.public_registers ≡ count_by not s.registers
  public_count = ap (λ (r : Report). r.public_registers) report_is

  pub limits : FitsLimits report
  limits =
      let a = fits.within.0 in
      let b = fits.within.1 in
      let o = order_is in
      record {
        order = (omega (arith, o, a), omega (arith, o, b));
        random = subst (λ r. r ≤ 65536) (sym random_is) fits.random;
        publics = subst (λ r. r ≤ 65536) (sym public_count) fits.publics;
        secrets = subst (λ r. r ≤ 65536) (sym secret_count) fits.secrets;
      }

  pub shares_size : report.order + 1 ≡ n
  shares_size = (let o = order_is in omega (arith, o, size))

  shares : (k : ℕ) (p : Port) → slice_get net.ports k ≡ Some p → is_shared report p.name ≡ bit_of s.ports k
  shares k p at = ap (λ (r : Report). is_shared r p.name) report_is ∙ port_named net graph marks s well can.graph_of can.marked can.secrets k p at

  pub flags_are : s.ports ≡ map (λ p. is_shared report p.name) net.ports
  flags_are =
      let secrets = can.secrets in
      let each = secrets.one_port_each in
      let many = length-map net.ports (λ p. is_shared report p.name) in
      items_same false s.ports (map (λ p. is_shared report p.name) net.ports) (omega (arith, each, many)) (λ k lt. at_place k (omega (arith, lt, each)))
    where
      at_place : (k : ℕ) → k < length net.ports → get_or s.ports k false ≡ get_or (map (λ p. is_shared report p.name) net.ports) k false
      at_place k lt =
          let p = found net.ports k lt in
          sym (shares k p.0 p.1) ∙ sym (get_or_from_slice_get (map (λ p. is_shared report p.name) net.ports) k (is_shared report p.0.name) false (get_image (λ p. is_shared report p.name) net.ports k p.0 p.1))

  -- ---- sinks

  pub many_sinks : length xan.sinks ≡ length (output_bits net) + length net.registers
  many_sinks = (let same = can.same in let graph_of = can.graph_of in same.as_many ∙ graph_of.sinks)

  secret_is : secret_at layout ≡ bit_of plan.secret
  secret_is = ap (λ (row : List Bool). bit_of row) laid.secret

  -- behind the outputs stand the next values
  pub back_of : (sinks nexts : List ℕ) (count : ℕ) → sinks ≡ xan.sinks → length nexts + (length sinks - count) ≡ length sinks → count ≡ length net.registers → length nexts ≡ length net.registers
  back_of sinks nexts count is behind registers = (let whole = ap length is in let many = many_sinks in omega (arith, whole, many, behind, registers))

  module _ (outputs nexts : List ℕ) (parts : xan.sinks ≡ outputs ++ nexts) (back : length nexts ≡ length net.registers) where
    pub front : length outputs ≡ length (output_bits net)
    front = (let whole = ap length parts in let both = length-append outputs nexts in let many = many_sinks in omega (arith, whole, both, many, back))

    out_at : (o : ℕ) → o < length outputs → node_at xan.sinks o ≡ node_at outputs o
    out_at o lt = ap (λ ks. get_or ks o 0) parts ∙ get_or_append_left outputs nexts 0 o lt

    next_at : (r : ℕ) → node_at xan.sinks (length outputs + r) ≡ node_at nexts r
    next_at r = ap (λ ks. get_or ks (length outputs + r) 0) parts ∙ get_or-append-add outputs nexts r 0

    all_sinks : length xan.sinks ≡ length outputs + length nexts
    all_sinks = ap length parts ∙ length-append outputs nexts

    pub outputs_reach : ReachDepth xan.nodes layout plan.depth outputs
    outputs_reach j lt =
        let all = all_sinks in
        subst (λ k. (k < length xan.nodes) × (first_at layout k ≤ plan.depth) × (plan.depth ≤ last_at layout k)) (out_at j lt) (laid.depth j (omega (arith, all, lt)))

    pub nexts_reach : ReachDepth xan.nodes layout plan.depth nexts
    nexts_reach j lt =
        let all = all_sinks in
        subst (λ k. (k < length xan.nodes) × (first_at layout k ≤ plan.depth) × (plan.depth ≤ last_at layout k)) (next_at j) (laid.depth (length outputs + j) (omega (arith, all, lt)))

    -- a sink is public where the net's is
    sink_public : (j : ℕ) → j < length graph.sinks → bit_of s.nodes (get_or graph.sinks j 0) ≡ false → secret_at layout (node_at xan.sinks j) ≡ false
    sink_public j lt public =
        let plan_is = can.planned in
        ap (λ f. f (node_at xan.sinks j)) secret_is ∙ can.stays_public (bit_of plan.secret) plan_is.secret j lt public

    next_public : (r : ℕ) → r < length nexts → bit_of s.registers r ≡ false → secret_at layout (node_at nexts r) ≡ false
    next_public r lt bare =
        let graph_of = can.graph_of in
        let many = graph_of.sinks in
        let f = front in
        let place : length outputs + r ≡ length (output_bits net) + r = omega (arith, f) in
        ap (secret_at layout) (sym (next_at r))
        ∙ (ap (λ j. secret_at layout (node_at xan.sinks j)) place
        ∙ sink_public (length (output_bits net) + r) (omega (arith, many, back, lt)) (nexts_public net graph marks s well can.graph_of can.marked can.secrets r (omega (arith, back, lt)) bare))

    module _ (b1 : Wiring) (load : ℕ) (inputs firsts : List (Value n)) (entered : IsEntered n net s.registers report b1 load inputs firsts) where
      input_kinds : map is_secret inputs ≡ s.inputs
      input_kinds = entered.inputs_kinds ∙ sym (inputs_are net graph marks s well can.graph_of can.marked can.secrets report shares)

      many_firsts : length firsts ≡ length s.registers
      many_firsts = sym (length-map firsts is_secret) ∙ ap (λ (ks : List Bool). length ks) entered.firsts_kinds

      many_values : length inputs ≡ length s.inputs
      many_values = sym (length-map inputs is_secret) ∙ ap (λ (ks : List Bool). length ks) input_kinds

      pub one_each : length nexts ≡ length firsts
      one_each = (let a = many_firsts in let b = many_registers in omega (arith, a, b, back))

      pub layout_is : IsLayout xan.nodes (map is_secret inputs) (map is_secret firsts) layout
      layout_is = subst₂ (λ i r. IsLayout xan.nodes i r layout) (sym input_kinds) (sym entered.firsts_kinds) laid.laid

      pub public_nexts : (r : ℕ) → r < length nexts → is_secret (value_at firsts r) ≡ false → secret_at layout (node_at nexts r) ≡ false
      public_nexts r lt bare = next_public r lt (sym (ap (λ ks. get_or ks r false) entered.firsts_kinds) ∙ (kind_at n firsts r ∙ bare))

      pub random_need : gadgets_before (secret_at layout) xan.nodes (length xan.nodes) * (n * (n - 1) / 2) ≡ report.random
      random_need = ap (λ g. g * (n * (n - 1) / 2)) laid.gadgets ∙ (pairs plan.gadgets order n fits.within.0 fits.within.1 size ∙ sym random_is)

      pub random_room : b1.given + gadgets_before (secret_at layout) xan.nodes (length xan.nodes) * (n * (n - 1) / 2) ≤ length (random_bits b1.ports)
      random_room =
          let none = entered.given in
          let bits = entered.random in
          let need = random_need in
          subst₂ (λ x y. x ≤ y) (sym (ap₂ (λ x y. x + y) none need)) (sym bits) (omega arith)

      -- when all nodes were made, the net is sound and all random bits were given
      pub is_complete : (b2 : Wiring) (values : List (Value n)) → MakesPipeline n b1 b2 (machine_of xan.nodes (length inputs) outputs nexts) plan.depth (gadgets_before (secret_at layout) xan.nodes (length xan.nodes)) inputs firsts load values → IsComplete n report.gadgets b2
      is_complete b2 values made =
          let none = entered.given in
          let need = random_need in
          let before = entered.begun in
          let made_now = made.begun in
          let all = laid.gadgets in
          let told = gadgets_are in
          record {
            sound = made.sound entered.sound;
            begun = omega (arith, before, made_now, all, told);
            given = made.given ∙ (ap₂ (λ x y. x + y) none need ∙ (zero-add report.random ∙ (sym entered.random ∙ ap (λ ps. length (random_bits ps)) (sym made.ports))));
          }

      pub gadget_room : b1.gadgets + gadgets_before (secret_at layout) xan.nodes (length xan.nodes) ≤ 2 ^ 32
      gadget_room =
          let none = entered.begun in
          let all = laid.gadgets in
          let few = few_gadgets plan.gadgets order fits.within.0 fits.within.1 fits.random in
          omega (arith, none, all, few)

      module _ (b2 : Wiring) (values : List (Value n)) (gadgets : ℕ) (made : MakesPipeline n b1 b2 (machine_of xan.nodes (length inputs) outputs nexts) plan.depth gadgets inputs firsts load values)
          (kinds : (o : ℕ) → o < length outputs → is_secret (value_at values o) ≡ secret_at layout (node_at outputs o)) where
        abbrev m : Machine
        m = machine_of xan.nodes (length inputs) outputs nexts

        pub ports_entered : map header_of b2.ports ≡ entered_headers net report
        ports_entered = ap (λ ps. map header_of ps) made.ports ∙ entered.ports

        pub are_outputs : AreOutputs n net report values
        are_outputs =
            let f = front in
            let each = made.one_each in
            let long = flags_long (λ p. is_shared report p.name) (filter (λ p. not (is_input p)) net.ports) in
            let graph_of = can.graph_of in
            let many = graph_of.sinks in
            record {
              one_each = omega (arith, each, f, long);
              public = λ o lt bare. (
                  let below : o < length outputs = omega (arith, lt, each) in
                  kinds o below
                  ∙ (ap (secret_at layout) (sym (out_at o below))
                  ∙ sink_public o (omega (arith, below, f, many)) (outputs_public net graph marks s well can.graph_of can.marked can.secrets report shares o (omega (arith, below, f)) bare)));
            }

        is_machine : IsMachine m
        is_machine =
            let all = all_sinks in
            record {
              in_order = xan.in_order;
              sourced = λ k x at. subst₂ (λ i r. IsTrue (has_source i r x)) (sym many_values) (let a = one_each in let b = many_firsts in sym (a ∙ b)) (sourced net graph marks s xan can.graph_of can.secrets can.among k x at);
              out_within = λ o lt. subst (λ ks. get_or ks o 0 < length xan.nodes) parts (xan.sinks_fit o 0 (omega (arith, all, lt)));
              next_within = λ r lt. subst (λ ks. get_or ks (length outputs + r) 0 < length xan.nodes) parts (xan.sinks_fit (length outputs + r) 0 (omega (arith, all, lt)));
            }

        machine_is : IsMachineOf net graph m
        machine_is = record {
          machine = is_machine;
          inputs = many_values ∙ many_inputs;
          outputs = front;
          registers = back;
          xan = xan;
          nodes = refl;
          sinks = parts;
          same = can.same;
        }

        module _ (b3 : Wiring) (led : IsLedOut n net report values b2 b3) (masked : PlainNet) (is : masked ≡ net_of b3) where
          small : report.order < 16
          small = (let l = limits in l.order.1)

          keeps : (bit : ℕ → Bool) (name : List ℕ) → IsNew (output_names net report) name → (other : ℕ → Bool) → port_value masked name other ≡ port_value (net_of b1) name other
          keeps bit name new other =
              ap (λ x. port_value x name other) is ∙ (led.keeps name new other ∙ ap (λ ps. flat_map (λ p. map other p.bits) (filter (λ p. bytes_eq p.name name) ps)) made.ports)

          abbrev built : (ℕ → ℕ → Bool) → Signals
          built bits = built_signals n inputs firsts values load bits (made.node bits) (made.state bits)

          port_signals : HasPortSignals net s.registers report masked m b3 built
          port_signals cycles bits run =
              let each = made.one_each in
              let a = one_each in
              record {
                given = λ i t lt lc. sym (
                    ap (λ row. bit_of row i) (inputs_stay net report can.names small (net_of b1) masked (keeps (bits t)) (bits t) ∙ entered.inputs_told bits t) ∙ row_bit n bits t inputs i lt);
                initial = λ r t lt lc. sym (
                    ap (λ row. bit_of row r) (initial_stay net report can.names small (net_of b1) masked (keeps (bits t)) (bits t) s.registers ∙ entered.firsts_told bits t) ∙ row_bit n bits t firsts r (omega (arith, lt, a)));
                load = λ t lc. sym (ap (λ row. bit_of row 0) (load_stays net report can.names small (net_of b1) masked (keeps (bits t)) (bits t) ∙ entered.load_told (bits t)));
                output = λ o t lt lc.
                    ap (λ x. bit_of (output_values net report x (bits t)) o) is
                    ∙ (ap (λ row. bit_of row o) ((led.told cycles bits run).1 t lc) ∙ row_bit n bits t values o (omega (arith, lt, each)));
              }

          pipelined : Finishes b3 masked → (secrets : List Bool) → TellsSecrets net marks secrets → IsPipelined net secrets report masked m made.level plan.depth
          pipelined finishes secrets tells =
              subst (λ ks. IsPipelined net ks report masked m made.level plan.depth) (sym (only_secrets net graph marks s well can.graph_of can.marked can.secrets secrets tells))
              (assembled net s.registers report masked m made.level plan.depth b1 b3 built is_machine
              (λ cycles bits run. made.pipeline cycles bits (led.told cycles bits run).0) finishes port_signals)

          pipe_is : IsPipeReport report plan.depth
          pipe_is = record {
            balance_is = ap (λ (r : Report). r.balance) report_is;
            latency_is = ap (λ (r : Report). r.latency) report_is;
            period_is = ap (λ (r : Report). r.period) report_is;
            streams_are = ap (λ (r : Report). r.streams) report_is;
          }

          shape : Shape net report masked
          shape = record { headers = ap (λ (x : PlainNet). map header_of x.ports) is ∙ led.ports; clock = ap (λ (x : PlainNet). x.clock) is }

          pub same : WellFormed masked → HasNoLoop masked → Finishes b3 masked → Same net marks report masked
          same masked_well no_loop finishes =
              is_same net marks graph m report masked made.level plan.depth well can.graph_of can.no_loop machine_is pipe_is
              (widths_right net report masked well masked_well shape) shape no_loop (pipelined finishes)
