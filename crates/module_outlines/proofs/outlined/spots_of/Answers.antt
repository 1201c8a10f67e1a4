use Rattle.std.proofs.Common.{ap, ◌+◌, ◌∙◌, ℕ}
use Rattle.module_outlines.proofs.outlined.spots_of.Goals as goal
use Rattle.module_outlines.proofs.Spots.{spots_on}

pub loop-wide-preserved : goal.loop-wide-preserved
loop-wide-preserved c =
    spots_on c.push.new.self c.loop-wide.spots c.loop-wide.first c.in-Some.next c.args.wides.now c.loop-wide.wide-index c.wide-item.result c.wide-item.is c.loop-wide-test.true
    c.loop-wide.invariant.0 c.loop-wide.invariant.1 c.in_ok-push.ensures.ok
    (c.in-Some.ensures.1 ∙ ap (λ (n : ℕ). c.loop-wide.first + n) c.width_of.ensures)
