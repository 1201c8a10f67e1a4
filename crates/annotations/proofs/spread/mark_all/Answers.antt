use Rattle.annotations.proofs.Reached.{reached_all}
use Rattle.annotations.proofs.spread.mark_all.Goals as goal

pub returns : goal.returns
returns c =
    reached_all c.args.net.now c.follow_all.new.marks c.follow_all.new.queue.items c.in_ok-follow_all.ensures.reached c.in_ok-follow_all.ensures.done
    (λ w bit. c.in_ok-follow_all.ensures.grown.more w (c.in_ok-mark_bits.ensures.marked w bit))
