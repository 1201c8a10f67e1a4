use Rattle.module_outlines.proofs.outlined.port_wides.Goals as goal
use Rattle.module_outlines.proofs.Spots.{ports_on}

pub loop-k-preserved : goal.loop-k-preserved
loop-k-preserved c =
    ports_on c.args.ports.now c.args.facts.now c.loop-k.k c.index-ports-k.result _ c.push.new.self c.loop-k.wides c.in_ok-wide.wide _
    c.index-ports-k.is c.loop-k-test.true c.requires c.loop-k.invariant c.in_ok-push.ensures.ok c.in_ok-wide.ensures
