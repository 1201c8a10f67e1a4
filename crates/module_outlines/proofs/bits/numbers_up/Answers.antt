use Rattle.module_outlines.proofs.bits.numbers_up.Goals as goal
use Rattle.module_outlines.proofs.Spots.{up_on}

pub loop-k-preserved : goal.loop-k-preserved
loop-k-preserved c = up_on c.push.new.self c.loop-k.numbers c.args.msb c.loop-k.k c.loop-k.invariant c.in_ok-push.ensures.ok
