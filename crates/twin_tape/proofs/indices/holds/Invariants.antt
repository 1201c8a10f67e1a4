use Rattle.std.proofs.Common.{◌≡◌, drop}
use Rattle.twin_tape.specs.Permitted.{has}
use Rattle.twin_tape.proofs.indices.holds.Given as goal

abbrev pub invariant-loop-i : goal.invariant-loop-i
invariant-loop-i l = has (drop l.i-index l.indices) l.index ≡ has l.indices l.index
