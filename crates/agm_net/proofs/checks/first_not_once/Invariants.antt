use Rattle.agm_net.specs.Checks.{OnceBelow}
use Rattle.agm_net.proofs.checks.first_not_once.Given as goal

abbrev pub invariant-loop-wire : goal.invariant-loop-wire
invariant-loop-wire l = OnceBelow l.counts l.repeated l.wire
