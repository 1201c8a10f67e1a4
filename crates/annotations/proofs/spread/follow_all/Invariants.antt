use Rattle.agm_net.specs.View.{plain_of}
use Rattle.annotations.specs.Spread.{AreReached, HasGrown, AreDone}
use Rattle.annotations.proofs.spread.follow_all.Given as goal

abbrev pub invariant-loop-turn : goal.invariant-loop-turn
invariant-loop-turn l = record {
  reached : AreReached (plain_of l.net) l.marks l.queue.items;
  grown : HasGrown l.fn.marks l.fn.queue.items l.marks l.queue.items;
  done : AreDone l.net.equations l.turn l.marks l.queue.items;
}
