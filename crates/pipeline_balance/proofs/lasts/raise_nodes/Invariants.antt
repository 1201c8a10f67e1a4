use Rattle.std.proofs.Common.{ℕ, List}
use Rattle.pipeline_balance.specs.Reaching.{AreRaised}
use Rattle.pipeline_balance.proofs.lasts.raise_nodes.Given as goal

abbrev pub invariant-loop-k : goal.invariant-loop-k
invariant-loop-k l = (sinks : List ℕ) (depth : ℕ) → AreRaised l.graph sinks l.secret l.levels l.late_first depth l.k 0 l.lasts.items
