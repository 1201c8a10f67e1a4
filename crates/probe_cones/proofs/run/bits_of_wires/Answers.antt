use Rattle.std.proofs.Common.{◌<◌, ◌++◌, ◌∷◌, [], ap₂, sym, ◌∙◌, arith, length}
use Rattle.std.proofs.lemmas.List.FromFn.{map-range_with_len_more}
use Rattle.agm_net.specs.Run.{bit_in}
use Rattle.probe_cones.proofs.Running.{value_in}
use Rattle.probe_cones.proofs.run.bits_of_wires.Goals as goal

pub loop-wire-preserved : goal.loop-wire-preserved
loop-wire-preserved c = λ net power before last none fits ran. (
    let w = c.loop-wire.wire in
    let test = c.loop-wire-test.true in
    let wires = c.wires-wire-end.ensures in
    let all = ran.graph_of.wires in
    let inside : w < length net.wires = omega (arith, test, wires, all) in
    c.in_ok-push.ensures.ok
    ∙ (ap₂ (λ bits b. bits ++ b ∷ []) (c.loop-wire.invariant net power before last none fits ran)
    (value_in net ran.is_net none power before last c.value.result w fits inside (λ table trace. c.value.ensures net power before last table ran trace))
    ∙ sym (map-range_with_len_more (bit_in net power (before ++ last ∷ []) (length before)) 0 w w (omega arith))))
