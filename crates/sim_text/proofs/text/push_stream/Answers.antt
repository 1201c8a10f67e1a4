use Rattle.std.proofs.Common.{◌≡◌, ◌+◌, ◌++◌, ◌∷◌, [], List, length, take, sym, ap, ◌∙◌, subst, arith}
use Rattle.std.proofs.lemmas.List.{append-nil, length-map, take_all}
use Rattle.std.proofs.lemmas.List.Elements.{recursion_from_All}
use Rattle.agm_net.specs.Plain.{input_bits, stored_of}
use Rattle.agm_net.specs.Trace.{Row, row_at}
use Rattle.agm_net.specs.View.{plain_of}
use Rattle.cycle_sim.specs.HasRun.{HasRun}
use Rattle.sim_text.specs.Text.{stream_text}
use Rattle.sim_text.proofs.Items.{all_item, take_item}
use Rattle.sim_text.proofs.Prefixes.{row_of_step}
use Rattle.sim_text.proofs.Texts.{line_more}
use Rattle.sim_text.proofs.text.push_stream.Goals as goal

pub loop-step-init : goal.loop-step-init
loop-step-init c = record { ran = c.in_ok-sim.ensures.has_run; told = λ table h. sym (append-nil c.args.text.now) }

pub step-requires : goal.step-requires
step-requires c =
    let net = plain_of c.args.net.now in
    let row = c.inputs-item.result in
    let wide : length row ≡ length (input_bits net) = all_item (λ (r : Row). length r ≡ length (input_bits net)) c.args.stream.now.steps c.as_slice-inputs-items.result.now c.loop-step.step row c.as_slice-inputs-items.ensures c.loop-step-test.true c.inputs-item.is c.requires.rows in
    ap length (c.as_slice.ensures ∙ c.in_ok-bits.ensures) ∙ (wide ∙ sym c.loop-step.invariant.ran.inputs)

pub push_line-requires : goal.push_line-requires
push_line-requires c =
    let net = plain_of c.args.net.now in
    let ran = c.step.ensures net c.args.stream.now.initial (take c.loop-step.step c.args.stream.now.steps) c.loop-step.invariant.ran in
    ap length c.as_slice-in-loop-step.ensures ∙ (c.in_ok-row.ensures.as_wide ∙ ran.graph_of.wires)

pub loop-step-preserved : goal.loop-step-preserved
loop-step-preserved c =
    let net = plain_of c.args.net.now in
    let power = c.args.stream.now.initial in
    let tape = c.args.stream.now.steps in
    let k = c.loop-step.step in
    let row = c.inputs-item.result in
    let sim = c.step.new.self in
    let more : take (k + 1) tape ≡ take k tape ++ row ∷ [] = take_item tape c.as_slice-inputs-items.result.now k row c.as_slice-inputs-items.ensures c.loop-step-test.true c.inputs-item.is in
    let ran : HasRun net power (take k tape ++ row ∷ []) sim =
    subst (λ (r : Row). HasRun net power (take k tape ++ r ∷ []) sim) (c.as_slice.ensures ∙ c.in_ok-bits.ensures) (c.step.ensures net power (take k tape) c.loop-step.invariant.ran) in
    let test = c.loop-step-test.true in
    let all : length c.as_slice-inputs-items.result.now ≡ length tape = ap length c.as_slice-inputs-items.ensures in
    record {
      ran = subst (λ (ts : List Row). HasRun net power ts sim) (sym more) ran;
      told = λ table trace. (
          let long : length table ≡ length tape = trace.as_long in
          let same : c.as_slice-in-loop-step.result.now ≡ row_at table k = c.as_slice-in-loop-step.ensures ∙ c.in_ok-row.ensures.row net (row_at table k) (row_of_step net power tape table k row sim (omega arith) more ran trace) in
          line_more net c.args.number k table c.as_slice-in-loop-step.result.now c.args.text.now c.loop-step.text c.push_line.new.text (omega arith) same (c.loop-step.invariant.told table trace) c.in_ok-push_line.ensures);
    }

pub returns : goal.returns
returns c =
    let net = plain_of c.args.net.now in
    let tape = c.args.stream.now.steps in
    let one = c.in_ok-sim.ensures.one_trace c.args.stream.now.initial tape (c.requires.initial ∙ sym (length-map c.args.net.now.registers stored_of)) (recursion_from_All (λ (r : Row). length r ≡ length (input_bits net)) tape c.requires.rows) in
    let table = one.0 in
    let long : length table ≡ length tape = one.1.as_long in
    let test = c.loop-step-test.false in
    let all : length c.as_slice-inputs-items.result.now ≡ length tape = ap length c.as_slice-inputs-items.ensures in
    record {
      table = table;
      trace = one.1;
      text_is = c.loop-step.invariant.told table one.1 ∙ ap (λ (ts : List Row). c.args.text.now ++ stream_text net (c.args.number, ts)) (take_all c.loop-step.step table (omega arith));
    }
