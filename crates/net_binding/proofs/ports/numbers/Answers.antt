use Rattle.net_binding.proofs.ports.numbers.Goals as goal
use Rattle.net_binding.proofs.Listed.{numbers_on}

pub loop-k-preserved : goal.loop-k-preserved
loop-k-preserved c = numbers_on c.push.new.self c.loop-k.list c.args.start c.loop-k.k c.loop-k.auto.k c.loop-k.invariant c.in_ok-push.ensures.ok
