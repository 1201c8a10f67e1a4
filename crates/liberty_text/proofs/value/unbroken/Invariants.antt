use Rattle.std.proofs.Common.{◌≡◌, ◌++◌, length}
use Rattle.liberty_text.specs.Cuts as spec
use Rattle.liberty_text.proofs.value.unbroken.Given as goal

abbrev pub invariant-loop-rest : goal.invariant-loop-rest
invariant-loop-rest l = l.value ++ spec.unbroken l.rest ≡ spec.unbroken l.inner

abbrev pub decreases-loop-rest : goal.decreases-loop-rest
decreases-loop-rest l = length l.rest
