use Rattle.bound_items.proofs.inside.wires_from.Goals as goal
use Rattle.bound_items.proofs.Instances.{run_on}

pub loop-wire-preserved : goal.loop-wire-preserved
loop-wire-preserved c = run_on c.push.new.self c.loop-wire.bits c.args.start c.loop-wire.wire c.loop-wire.auto.wire c.loop-wire.invariant c.in_ok-push.ensures.ok
