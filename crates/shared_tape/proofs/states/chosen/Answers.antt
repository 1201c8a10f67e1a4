use Rattle.shared_tape.proofs.Chosen.{chosen_more}
use Rattle.shared_tape.proofs.states.chosen.Goals as goal

pub loop-k-preserved : goal.loop-k-preserved
loop-k-preserved c =
    chosen_more c.args.kind c.args.secrets.now c.args.values.now c.loop-k.k c.loop-k.those c.push_chosen.new.those c.loop-k-test.true c.requires c.loop-k.invariant c.in_ok-push_chosen.ensures
