use Rattle.std.proofs.Common.{◌≡◌}
use Rattle.shared_tape.specs.Filled.{zeros}
use Rattle.side_by_side.proofs.masked_run.zeros.Given as goal

abbrev pub invariant-loop : goal.invariant-loop
invariant-loop l = l.row ≡ zeros l.counter
