use Rattle.form_bits.proofs.bits.push_repeated.Goals as goal
use Rattle.form_bits.proofs.Runs.{repeated_on}

pub loop-preserved : goal.loop-preserved
loop-preserved c = repeated_on c.extend.new.self c.loop.bits c.args.once.now _ c.args.times c.loop.counter c.loop-test.true c.loop.invariant c.in_ok-extend.ensures.ok
