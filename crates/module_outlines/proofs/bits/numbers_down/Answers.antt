use Rattle.module_outlines.proofs.bits.numbers_down.Goals as goal
use Rattle.module_outlines.proofs.Spots.{down_on}

pub loop-k-preserved : goal.loop-k-preserved
loop-k-preserved c = down_on c.push.new.self c.loop-k.numbers c.args.msb c.loop-k.k c.loop-k.invariant c.in_ok-push.ensures.ok
