use Rattle.std.proofs.Common.{◌≡◌, ◌++◌}
use Rattle.shared_tape.specs.Filled.{zeros}
use Rattle.shared_tape.proofs.sharer.push_zeros.Given as goal

abbrev pub invariant-loop : goal.invariant-loop
invariant-loop l = l.row ≡ l.initial.row ++ zeros l.counter
