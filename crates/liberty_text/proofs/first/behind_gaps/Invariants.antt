use Rattle.std.proofs.Common.{◌≡◌, ◌≤◌, length}
use Rattle.liberty_text.specs.Tokens.{tokens_of}
use Rattle.liberty_text.proofs.first.behind_gaps.Given as goal

abbrev pub invariant-loop-behind : goal.invariant-loop-behind
invariant-loop-behind l = (tokens_of l.rest ≡ tokens_of l.bytes) × (length l.rest ≤ length l.bytes)

abbrev pub decreases-loop-behind : goal.decreases-loop-behind
decreases-loop-behind l = length l.rest
