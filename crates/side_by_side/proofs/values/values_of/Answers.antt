use Rattle.std.proofs.Common.{◌≡◌, ◌+◌, ◌∷◌, [], length, length-append, ap, ◌∙◌, arith}
use Rattle.std.proofs.lemmas.List.{take_all}
use Rattle.sim_text.proofs.Prefixes.{value_more, wide_row}
use Rattle.side_by_side.proofs.values.values_of.Goals as goal

pub loop-wire-preserved : goal.loop-wire-preserved
loop-wire-preserved c =
    let wires = c.wires-wire-end.ensures in
    let test = c.loop-wire-test.true in
    let before = c.loop-wire.invariant.as_wide in
    let long : length c.push.new.self ≡ length c.loop-wire.values + 1 = ap length c.in_ok-push.ensures.ok ∙ length-append c.loop-wire.values (c.value.result ∷ []) in
    record {
      as_wide = omega arith;
      row = λ net row h. value_more net c.args.sim.now row c.loop-wire.wire c.value.result c.loop-wire.values c.push.new.self h (omega arith) (c.value.ensures net) (c.loop-wire.invariant.row net row h) c.in_ok-push.ensures.ok;
    }

pub returns-clause-row : goal.returns-clause-row
returns-clause-row c = λ net row h. (
    let wide = wide_row net c.args.sim.now row h in
    let wires = c.wires-wire-end.ensures in
    let test = c.loop-wire-test.false in
    c.loop-wire.invariant.row net row h ∙ take_all c.loop-wire.wire row (omega arith))
