use Rattle.std.proofs.Common.{◌≡◌, Bool, false, List, length, replicate, sym, subst, ◌∙◌, rules}
use Rattle.agm_net.specs.View.{plain_of}
use Rattle.annotations.proofs.Reached.{none_reached}
use Rattle.annotations.specs.Spread.{AreReached}
use Rattle.annotations.proofs.spread.clock_wires.Goals as goal

pub mark_all-requires-clause-reached : goal.mark_all-requires-clause-reached
mark_all-requires-clause-reached c =
    let net = plain_of c.args.net.now in
    let fresh : c.in_ok-marks.marks.items ≡ replicate (length c.args.net.now.wires) false = search rules in
    subst (λ (ms : List Bool). AreReached net ms c.new-queue.result.items) (sym (c.as_mut_slice.ensures.value ∙ fresh))
    (subst (AreReached net (replicate (length c.args.net.now.wires) false)) (sym c.new-queue.ensures.items) (none_reached net))
