use Rattle.std.proofs.Common.{length, ◌≡◌, ◌≤◌}
use Rattle.liberty_text.specs.First as spec
use Rattle.liberty_text.proofs.gap.behind_close.Given as goal

abbrev pub invariant-loop-rest : goal.invariant-loop-rest
invariant-loop-rest l = (spec.behind_close l.rest ≡ spec.behind_close l.bytes) × (length l.rest ≤ length l.bytes)

abbrev pub decreases-loop-rest : goal.decreases-loop-rest
decreases-loop-rest l = length l.rest
