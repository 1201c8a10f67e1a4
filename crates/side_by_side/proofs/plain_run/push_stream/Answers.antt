use Rattle.std.proofs.Common.{◌≡◌, ◌<◌, ◌+◌, ◌++◌, ◌∷◌, [], ℕ, List, length, take, sym, ap, ◌∙◌, subst, arith}
use Rattle.std.specs.List.{flat_map, range_with_len}
use Rattle.std.proofs.lemmas.List.{append-nil, length-map}
use Rattle.std.proofs.lemmas.List.Elements.{recursion_from_All}
use Rattle.agm_net.specs.Plain.{input_bits, stored_of}
use Rattle.agm_net.specs.Trace.{Row, row_at}
use Rattle.agm_net.specs.View.{plain_of}
use Rattle.cycle_sim.specs.HasRun.{HasRun}
use Rattle.share_wiring.specs.Schedule.{reading_cycle}
use Rattle.sim_text.proofs.Items.{all_item, take_item}
use Rattle.sim_text.proofs.Prefixes.{row_of_step}
use Rattle.side_by_side.specs.Beside.{seen_in}
use Rattle.side_by_side.specs.Pairs.{step_pairs}
use Rattle.side_by_side.proofs.More.{item_of}
use Rattle.side_by_side.proofs.Streams.{step_more}
use Rattle.side_by_side.proofs.plain_run.push_stream.Goals as goal

pub loop-step-init : goal.loop-step-init
loop-step-init c = record { ran = c.in_ok-sim.ensures.has_run; told = λ masked table first by seen_is trace. sym (append-nil c.args.pairs.now) }

pub step-requires : goal.step-requires
step-requires c =
    let net = plain_of c.args.net.now in
    let row = c.inputs-item.result in
    let wide : length row ≡ length (input_bits net) = all_item (λ (r : Row). length r ≡ length (input_bits net)) c.args.stream.now.steps c.as_slice-inputs-items.result.now c.loop-step.step row c.as_slice-inputs-items.ensures c.loop-step-test.true c.inputs-item.is c.requires.rows in
    ap length (c.as_slice.ensures ∙ c.in_ok-bits.ensures) ∙ (wide ∙ sym c.loop-step.invariant.ran.inputs)

pub loop-step-preserved : goal.loop-step-preserved
loop-step-preserved c =
    let net = plain_of c.args.net.now in
    let report = c.args.report.now in
    let power = c.args.stream.now.initial in
    let tape = c.args.stream.now.steps in
    let number = c.args.number in
    let k = c.loop-step.step in
    let row = c.inputs-item.result in
    let sim = c.step.new.self in
    let more : take (k + 1) tape ≡ take k tape ++ row ∷ [] = take_item tape c.as_slice-inputs-items.result.now k row c.as_slice-inputs-items.ensures c.loop-step-test.true c.inputs-item.is in
    let ran : HasRun net power (take k tape ++ row ∷ []) sim =
    subst (λ (r : Row). HasRun net power (take k tape ++ r ∷ []) sim) (c.as_slice.ensures ∙ c.in_ok-bits.ensures) (c.step.ensures net power (take k tape) c.loop-step.invariant.ran) in
    let test = c.loop-step-test.true in
    let all : length c.as_slice-inputs-items.result.now ≡ length tape = ap length c.as_slice-inputs-items.ensures in
    let t = reading_cycle report.balance report.period report.latency number k in
    let less : t < length c.args.seen.now = c.requires.read k (omega (arith, test, all)) in
    let at : c.reading_cycle-cycle.result ≡ t = c.reading_cycle-cycle.ensures in
    record {
      ran = subst (λ (ts : List Row). HasRun net power ts sim) (sym more) ran;
      told = λ masked table first by seen_is trace. (
          let same : c.as_slice-in-loop-step.result.now ≡ row_at first k = c.as_slice-in-loop-step.ensures ∙ c.in_ok-row.ensures.row net (row_at first k) (row_of_step net power tape first k row sim (omega (arith, test, all)) more ran trace) in
          let many : length c.args.seen.now ≡ length table = ap length seen_is ∙ length-map table (seen_in c.args.watched.now) in
          let there : c.as_slice-in-loop-step-2.result.now ≡ seen_in c.args.watched.now (row_at table t) =
          c.as_slice-in-loop-step-2.ensures
          ∙ (item_of (seen_in c.args.watched.now) table c.args.seen.now c.reading_cycle-cycle.result [] c.index-seen-cycle.result seen_is (omega (arith, less, at, many)) c.index-seen-cycle.is
          ∙ ap (λ (n : ℕ). seen_in c.args.watched.now (row_at table n)) at) in
          step_more net report masked table number first k c.args.watched.now c.as_slice-in-loop-step.result.now c.args.pairs.now c.loop-step.pairs c.push_step.new.pairs by same
          (c.loop-step.invariant.told masked table first by seen_is trace) (c.in_ok-push_step.ensures (row_at table t) there));
    }

pub returns : goal.returns
returns c = λ masked table by seen_is. (
    let net = plain_of c.args.net.now in
    let tape = c.args.stream.now.steps in
    let one = c.in_ok-sim.ensures.one_trace c.args.stream.now.initial tape (c.requires.initial ∙ sym (length-map c.args.net.now.registers stored_of)) (recursion_from_All (λ (r : Row). length r ≡ length (input_bits net)) tape c.requires.rows) in
    let first = one.0 in
    let long : length first ≡ length tape = one.1.as_long in
    let test = c.loop-step-test.false in
    let below = c.loop-step.auto.step-end in
    let all : length c.as_slice-inputs-items.result.now ≡ length tape = ap length c.as_slice-inputs-items.ensures in
    let end : c.loop-step.step ≡ length first = omega (arith, long, test, below, all) in
    record {
      first = first;
      trace = one.1;
      pairs_are = c.loop-step.invariant.told masked table first by seen_is one.1
          ∙ ap (λ (n : ℕ). c.args.pairs.now ++ flat_map (step_pairs net c.args.report.now masked table c.args.number first) (range_with_len 0 n)) end;
    })
