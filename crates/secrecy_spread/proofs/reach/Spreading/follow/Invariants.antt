use Rattle.secrecy_spread.specs.Reach.{state}
use Rattle.secrecy_spread.proofs.Reaching.{IsFollowing}
use Rattle.secrecy_spread.proofs.reach.Spreading.follow.Given as goal

abbrev pub invariant-loop-link : goal.invariant-loop-link
invariant-loop-link l = IsFollowing l.edges l.head l.link (state l.fn.self) (state l.self)

abbrev pub decreases-loop-link : goal.decreases-loop-link
decreases-loop-link l = l.link
