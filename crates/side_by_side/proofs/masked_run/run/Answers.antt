use Rattle.std.proofs.Common.{◌≡◌, ◌*◌, ◌+◌, ◌++◌, ◌∷◌, [], false, List, length, take, map, sym, ap, subst, ◌∙◌, arith}
use Rattle.std.specs.List.{AllByRecursion}
use Rattle.std.proofs.lemmas.List.{length-replicate, take_all}
use Rattle.agm_net.specs.Plain.{input_bits}
use Rattle.agm_net.specs.Trace.{Row, row_at, IsTrace}
use Rattle.agm_net.specs.View.{plain_of}
use Rattle.agm_net.proofs.Lists.{all_joined}
use Rattle.cycle_sim.specs.HasRun.{HasRun}
use Rattle.rand_chacha.specs.ChaCha.{key_of}
use Rattle.random_draws.specs.Draws.{random_bits}
use Rattle.shared_tape.specs.Driven.{with_random}
use Rattle.sim_text.proofs.Prefixes.{row_of_step}
use Rattle.side_by_side.specs.Beside.{seen_in}
use Rattle.side_by_side.proofs.More.{items_more}
use Rattle.side_by_side.proofs.Whole.{tape_of, tape_long, tape_more}
use Rattle.side_by_side.proofs.masked_run.run.Goals as goal

pub loop-cycle-init : goal.loop-cycle-init
loop-cycle-init c = record { ran = c.requires.has_run; wide = tt; told = λ table trace. c.new-seen.ensures }

pub loop-cycle-preserved : goal.loop-cycle-preserved
loop-cycle-preserved c =
    let net = plain_of c.args.net.now in
    let power = c.args.power.now in
    let seed = c.args.seed.now in
    let random = c.args.random in
    let rows = c.args.rows.now in
    let tape = tape_of seed random rows in
    let k = c.loop-cycle.cycle in
    let row = c.index-rows-cycle.result in
    let sim = c.step.new.self in
    let whole = with_random (random_bits (key_of seed) 0 (k * random) random) row in
    let test = c.loop-cycle-test.true in
    let tall = tape_long seed random rows in
    let more : take (k + 1) tape ≡ take k tape ++ whole ∷ [] = tape_more seed random rows k row test c.index-rows-cycle.is in
    let given : c.as_slice.result.now ≡ whole = c.as_slice.ensures ∙ c.in_ok-inputs.ensures in
    let ran : HasRun net power (take k tape ++ whole ∷ []) sim = subst (λ (r : Row). HasRun net power (take k tape ++ r ∷ []) sim) given (c.step.ensures net power (take k tape) c.loop-cycle.invariant.ran) in
    let as_wide : length whole ≡ length (input_bits net) =
    ap length (sym c.in_ok-inputs.ensures) ∙ (sym c.len.ensures ∙ (c.if-len-inputs.false ∙ (c.inputs.ensures ∙ c.loop-cycle.invariant.ran.inputs))) in
    record {
      ran = subst (λ (ts : List Row). HasRun net power ts sim) (sym more) ran;
      wide = subst (AllByRecursion (λ (r : Row). length r ≡ length (input_bits net))) (sym more)
          (all_joined (λ (r : Row). length r ≡ length (input_bits net)) (take k tape) (whole ∷ []) c.loop-cycle.invariant.wide (as_wide, tt));
      told = λ table trace. (
          let long : length table ≡ length tape = trace.as_long in
          let same : c.as_slice-in-loop-cycle.result.now ≡ row_at table k =
          c.as_slice-in-loop-cycle.ensures ∙ c.in_ok-values.ensures.row net (row_at table k) (row_of_step net power tape table k whole sim (omega (arith, test, tall)) more ran trace) in
          items_more (seen_in c.args.watched.now) table k [] [] c.loop-cycle.seen c.push.new.self c.in_ok-seen_in.field-0 (omega (arith, test, tall, long)) (c.loop-cycle.invariant.told table trace)
          (c.in_ok-seen_in.ensures ∙ ap (seen_in c.args.watched.now) same) c.in_ok-push.ensures.ok);
    }

pub returns : goal.returns
returns c =
    let net = plain_of c.args.net.now in
    let power = c.args.power.now in
    let tape = tape_of c.args.seed.now c.args.random c.args.rows.now in
    let k = c.loop-cycle.cycle in
    let test = c.loop-cycle-test.false in
    let tall = tape_long c.args.seed.now c.args.random c.args.rows.now in
    let wide = subst (AllByRecursion (λ (r : Row). length r ≡ length (input_bits net))) (take_all k tape (omega (arith, test, tall))) c.loop-cycle.invariant.wide in
    let one = c.requires.one_trace power tape (ap length c.requires.power ∙ length-replicate (length net.registers) false) wide in
    let table = one.0 in
    let long : length table ≡ length tape = one.1.as_long in
    record {
      table = table;
      runs = record { one_trace = c.requires.one_trace; trace = subst (λ (p : Row). IsTrace net p tape table) c.requires.power one.1 };
      seen_is = c.loop-cycle.invariant.told table one.1 ∙ ap (map (seen_in c.args.watched.now)) (take_all k table (omega (arith, test, tall, long)));
    }
