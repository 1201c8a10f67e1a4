use Rattle.std.proofs.Common.{Bool, true, List, set, sym, subst}
use Rattle.agm_net.specs.View.{plain_of}
use Rattle.annotations.proofs.Reached.{reached_more}
use Rattle.annotations.specs.Spread.{AreReached}
use Rattle.annotations.proofs.spread.mark_clock.Goals as goal

pub returns-clause-reached : goal.returns-clause-reached
returns-clause-reached c =
    let net = plain_of c.args.net.now in
    subst (λ (ms : List Bool). AreReached net ms c.mark.new.queue.items) (sym c.in_ok-mark.ensures.0)
    (subst (AreReached net (set c.args.marks.now c.args.wire true)) (sym c.in_ok-mark.ensures.1) (reached_more net c.args.marks.now c.args.queue.now.items c.args.wire c.requires.within c.requires.clock c.requires.reached))
