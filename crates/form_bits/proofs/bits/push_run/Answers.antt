use Rattle.form_bits.proofs.bits.push_run.Goals as goal
use Rattle.form_bits.proofs.Runs.{run_on}

pub loop-k-preserved : goal.loop-k-preserved
loop-k-preserved c = run_on c.push.new.self c.loop-k.bits c.args.bits.now c.args.start c.loop-k.k c.loop-k.auto.k c.loop-k.invariant c.in_ok-push.ensures.ok
