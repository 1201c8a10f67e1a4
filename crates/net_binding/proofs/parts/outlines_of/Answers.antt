use Rattle.net_binding.proofs.parts.outlines_of.Goals as goal
use Rattle.net_binding.proofs.Listed.{outlines_on}

pub loop-unit-preserved : goal.loop-unit-preserved
loop-unit-preserved c =
    outlines_on c.args.modules.now c.loop-unit.outlines c.push.new.self c.loop-unit.unit-index c.unit-item.result c.in_ok-outline.outline c.unit-item.is c.loop-unit-test.true c.in_ok-outline.ensures c.loop-unit.invariant c.in_ok-push.ensures.ok
