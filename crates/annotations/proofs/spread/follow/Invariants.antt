use Rattle.std.proofs.Common.{◌≡◌, ℕ, ◌+◌, ◌≤◌, true, length}
use Rattle.agm_net.specs.View.{plain_of}
use Rattle.annotations.specs.Spread.{copies_at, AreReached, HasGrown, MarkedFrom}
use Rattle.annotations.proofs.spread.follow.Given as goal

abbrev pub invariant-loop-number : goal.invariant-loop-number
invariant-loop-number l = record {
  reached : AreReached (plain_of l.net) l.marks l.queue.items;
  grown : HasGrown l.fn.marks l.fn.queue.items l.marks l.queue.items;
  within : l.number ≤ length l.net.equations;
  here : (e : ℕ) → l.number ≡ e + 1 → copies_at l.net.equations e l.wire ≡ true;
  marked : MarkedFrom l.net.equations l.wire l.number l.marks;
}

abbrev pub decreases-loop-number : goal.decreases-loop-number
decreases-loop-number l = l.number
