use Rattle.std.proofs.Common.{◌≡◌}
use Rattle.share_wiring.specs.Wiring.{names}
use Rattle.share_wiring.proofs.finish.names.Given as goal

abbrev pub invariant-loop-wire : goal.invariant-loop-wire
invariant-loop-wire l = l.out ≡ names l.yielded
