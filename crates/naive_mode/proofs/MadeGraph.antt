-- What is laid out is the graph of the naive mode.
use Rattle.std.proofs.Common.{◌≡◌, ◌<◌, ℕ, suc, Bool, List, [], length, map, slice_get, get_or, Some, IsTrue, All, count_by, refl, sym, ap, ◌∙◌, subst, arith, zero-add}
use Rattle.std.specs.List.{AllByRecursion}
use Rattle.std.proofs.lemmas.List.{length-map}
use Rattle.std.proofs.lemmas.Option.{slice_get-get_or, slice_get_within, get_or_from_slice_get}
use Rattle.agm_net.proofs.Lists.{all_of_one, all_places, get_image}
use Rattle.agm_net.specs.Trace.{Row}
use Rattle.logic_graph.specs.declared.nodes.Node.{Node}
use Rattle.logic_graph.specs.declared.nodes.Node.TheVariants as node
use Rattle.logic_graph.specs.declared.nodes.XanNode.{XanNode}
use Rattle.logic_graph.specs.declared.nodes.XanNode.TheVariants.{Input, Q}
use Rattle.logic_graph.specs.declared.graphs.Graph.{Graph}
use Rattle.logic_graph.specs.declared.graphs.Xan.{Xan}
use Rattle.logic_graph.specs.Live.{has_operand}
use Rattle.logic_graph.specs.Machines.{Solves, sink_at}
use Rattle.logic_graph.specs.Nodes.{xan_reads_before}
use Rattle.logic_graph.specs.Settled.{bit_of, node_value, IsSettled}
use Rattle.secrecy_spread.specs.declared.secrets.Secrets.{Secrets}
use Rattle.secrecy_spread.specs.NodeSecrets.{Fits, is_secret, TellsNodes}
use Rattle.secrecy_spread.specs.Costs.{is_gadget}
use Rattle.secrecy_spread.specs.Levels.{TellsLevels, depth_of}
use Rattle.secrecy_spread.specs.Mode.{IsMadeBy}
use Rattle.secrecy_spread.specs.Naive.{naive_level, NaiveGadgets, NaiveDepth}
use Rattle.naive_mode.specs.declared.rows.Layout.{Layout}
use Rattle.naive_mode.specs.Rows.{AreLive, IsLaidOut, laid, place_at}
use Rattle.naive_mode.proofs.Marking.{operand_before, reads_at}
use Rattle.naive_mode.proofs.Standing.{HasRow, HaveRows, have_rows, row_of, row_within, order_at, laid_order, laid_among, IsAmong}
use Rattle.naive_mode.proofs.Carrying.{carried, value_local, secret_local, level_local, level_of_secret, gadget_local, value_row, secret_row, level_row, told, is_told}
use Rattle.naive_mode.proofs.Costing.{laid_gadgets, depth_same}

module _ (graph : Graph) (flags : List Bool) (layout : Layout) (lives : AreLive graph.nodes graph.sinks flags) (out : IsLaidOut graph.nodes flags layout) where
  abbrev live : ℕ → Bool
  live = bit_of flags

  abbrev place : ℕ → ℕ
  place = place_at layout.places

  operands : (k : ℕ) (n : Node) → slice_get graph.nodes k ≡ Some n → IsTrue (live k) → (a : ℕ) → IsTrue (has_operand a n) → (a < k) × IsTrue (live a)
  operands k n at on a h = (operand_before k n a (graph.in_order k n at) h, lives.closed k a on (reads_at graph.nodes k n a at ∙ h))

  rows : HaveRows layout.nodes live place 0 0 graph.nodes
  rows = have_rows layout.nodes live place [] 0 0 graph.nodes out.laid refl out.placed

  its_row : (k : ℕ) (n : Node) → slice_get graph.nodes k ≡ Some n → IsTrue (live k) → (b : ℕ) × HasRow layout.nodes place b (place k) n
  its_row k n at on = row_of layout.nodes live place 0 0 graph.nodes rows k k n (zero-add k) at on

  -- operands stand before the operators
  pub in_order : (k : ℕ) (n : XanNode) → slice_get layout.nodes k ≡ Some n → IsTrue (xan_reads_before k n)
  in_order k n at =
      order_at 0 (laid live place 0 0 graph.nodes)
      (laid_order live place 0 0 graph.nodes (λ j lt on. absurd (omega arith)) out.placed
      (λ j i m is here on a h. (let e : j ≡ i = omega arith in operands i m (subst (λ t. slice_get graph.nodes t ≡ Some m) e here) on a h)))
      k k n (zero-add k) (ap (λ ns. slice_get ns k) (sym out.laid) ∙ at)

  -- a sink is a live node
  sink_on : (j k : ℕ) → slice_get graph.sinks j ≡ Some k → (k < length graph.nodes) × IsTrue (live k)
  sink_on j k at =
      let lt = graph.sinks_fit j k (slice_get_within graph.sinks j k at) in
      let e = get_or_from_slice_get graph.sinks j k k at in
      (omega arith, lives.from_sinks j k at)

  -- and what stands for it is a node
  pub sinks_fit : All (λ k. k < length layout.nodes) (map place graph.sinks)
  sinks_fit j d lt =
      let long = length-map graph.sinks place in
      let within : j < length graph.sinks = omega arith in
      let k = get_or graph.sinks j 0 in
      let at = slice_get-get_or graph.sinks j 0 within in
      let on = sink_on j k at in
      let n = get_or graph.nodes k node.Zero in
      let own = its_row k n (slice_get-get_or graph.nodes k node.Zero on.0) on.1 in
      let fit = row_within layout.nodes place own.0 (place k) n own.1 in
      let e = get_or_from_slice_get (map place graph.sinks) j (place k) d (get_image place graph.sinks j k at) in
      omega arith

  image_sink : (sinks : List ℕ) → sinks ≡ map place graph.sinks → (j : ℕ) → j < length graph.sinks → sink_at sinks j ≡ place (sink_at graph.sinks j)
  image_sink sinks is j lt =
      ap (λ ss. sink_at ss j) is
      ∙ get_or_from_slice_get (map place graph.sinks) j (place (sink_at graph.sinks j)) 0 (get_image place graph.sinks j (sink_at graph.sinks j) (slice_get-get_or graph.sinks j 0 lt))

  values_same : (inputs registers values : Row) (at : ℕ → Bool) → IsSettled graph.nodes inputs registers values → Solves layout.nodes (bit_of inputs) (bit_of registers) at
      → (k : ℕ) → k < length graph.nodes → IsTrue (live k) → at (place k) ≡ bit_of values k
  values_same inputs registers values at settled solves k within on =
      carried (node_value (bit_of inputs) (bit_of registers)) (value_local (bit_of inputs) (bit_of registers)) graph.nodes live place at (bit_of values) operands
      (λ j n here up. (let own = its_row j n here up in value_row layout.nodes (bit_of inputs) (bit_of registers) at solves place own.0 (place j) n own.1))
      settled.is_value (suc k) k (omega arith) within on

  module _ (s : Secrets) (fits : Fits graph s) where
    secret_same : (secret : ℕ → Bool) → TellsNodes layout.nodes s secret → (k : ℕ) → k < length graph.nodes → IsTrue (live k) → secret (place k) ≡ bit_of s.nodes k
    secret_same secret tells k within on =
        carried (is_secret s.inputs s.registers) (secret_local s.inputs s.registers) graph.nodes live place secret (bit_of s.nodes) operands
        (λ j n here up. (let own = its_row j n here up in secret_row layout.nodes s secret tells place own.0 (place j) n own.1))
        fits.spread (suc k) k (omega arith) within on

    -- the secrecy of operands
    at_operands : (secret : ℕ → Bool) → TellsNodes layout.nodes s secret → (k : ℕ) (n : Node) → slice_get graph.nodes k ≡ Some n → IsTrue (live k) → (a : ℕ) → IsTrue (has_operand a n) → secret (place a) ≡ bit_of s.nodes a
    at_operands secret tells k n at on a h =
        let o = operands k n at on a h in
        let lower = o.0 in
        let within = slice_get_within graph.nodes k n at in
        secret_same secret tells a (omega arith) o.1

    abbrev levels : ℕ → ℕ
    levels = told 0 (naive_level (bit_of s.nodes)) (level_local (bit_of s.nodes)) graph.nodes graph.in_order

    levels_told : (k : ℕ) (n : Node) → slice_get graph.nodes k ≡ Some n → levels k ≡ naive_level (bit_of s.nodes) levels n
    levels_told = is_told 0 (naive_level (bit_of s.nodes)) (level_local (bit_of s.nodes)) graph.nodes graph.in_order

    level_same : (secret : ℕ → Bool) (level : ℕ → ℕ) → TellsNodes layout.nodes s secret → TellsLevels layout.nodes secret level → (k : ℕ) → k < length graph.nodes → IsTrue (live k) → level (place k) ≡ levels k
    level_same secret level tells tells_levels k within on =
        carried (naive_level (bit_of s.nodes)) (level_local (bit_of s.nodes)) graph.nodes live place level levels operands
        (λ j n here up. (
        let own = its_row j n here up in
        level_row layout.nodes s secret tells place own.0 (place j) level tells_levels n own.1
        ∙ level_of_secret (λ a. level (place a)) (λ a. secret (place a)) (bit_of s.nodes) n (at_operands secret tells j n here up)))
        levels_told (suc k) k (omega arith) within on

    pub made : (xan : Xan) → xan.nodes ≡ layout.nodes → xan.sinks ≡ map place graph.sinks → IsMadeBy NaiveGadgets NaiveDepth graph s xan
    made xan nodes sinks =
        let among : AllByRecursion (IsAmong graph.nodes) xan.nodes =
        subst (λ ns. AllByRecursion (IsAmong graph.nodes) ns) (sym (nodes ∙ out.laid))
        (laid_among graph.nodes live place 0 0 graph.nodes (λ j n at. subst (λ t. slice_get graph.nodes t ≡ Some n) (sym (zero-add j)) at)) in
        let on_sink : (j : ℕ) → j < length graph.sinks → (sink_at graph.sinks j < length graph.nodes) × IsTrue (live (sink_at graph.sinks j)) =
        λ j lt. sink_on j (sink_at graph.sinks j) (slice_get-get_or graph.sinks j 0 lt) in
        record {
          same = record {
            as_many = ap length sinks ∙ length-map graph.sinks place;
            same = λ inputs registers values at settled solves j lt. (
                let on = on_sink j lt in
                ap at (image_sink xan.sinks sinks j lt)
                ∙ values_same inputs registers values at settled (subst (λ ns. Solves ns (bit_of inputs) (bit_of registers) at) nodes solves) (sink_at graph.sinks j) on.0 on.1);
          };
          among = record {
            inputs = λ k i at. all_of_one (IsAmong graph.nodes) xan.nodes k (Input i) among at;
            registers = λ k r at. all_of_one (IsAmong graph.nodes) xan.nodes k (Q r) among at;
          };
          stays_public = λ secret tells j lt none. (
              let on = on_sink j lt in
              ap secret (image_sink xan.sinks sinks j lt)
              ∙ (secret_same secret (subst (λ ns. TellsNodes ns s secret) nodes tells) (sink_at graph.sinks j) on.0 on.1 ∙ none));
          gadgets = λ n has. (
              let secret = has.0 in
              let tells = subst (λ ns. TellsNodes ns s secret) nodes has.1 in (
                live,
                lives.tells,
                has.2
                    ∙ (ap (count_by (is_gadget secret)) (nodes ∙ out.laid)
                    ∙ laid_gadgets layout.nodes s secret tells place live (bit_of s.nodes) 0 0 graph.nodes rows
                    (λ j i m is at on. (let e : j ≡ i = omega arith in
                    gadget_local (λ a. secret (place a)) (bit_of s.nodes) m (at_operands secret tells i m (subst (λ t. slice_get graph.nodes t ≡ Some m) e at) on)))),
              ));
          depth = λ n has. (
              let secret = has.0 in
              let level = has.1 in
              let tells = subst (λ ns. TellsNodes ns s secret) nodes has.2 in
              let tells_levels = subst (λ ns. TellsLevels ns secret level) nodes has.3 in (
                levels,
                levels_told,
                has.4
                    ∙ (ap (depth_of secret level) sinks
                    ∙ depth_same secret (bit_of s.nodes) level levels place graph.sinks
                    (all_places (λ k. (secret (place k) ≡ bit_of s.nodes k) × (level (place k) ≡ levels k)) graph.sinks
                    (λ j k at. (let on = sink_on j k at in (secret_same secret tells k on.0 on.1, level_same secret level tells tells_levels k on.0 on.1))))),
              ));
        }
