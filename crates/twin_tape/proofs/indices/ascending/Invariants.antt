use Rattle.std.proofs.Common.{◌≡◌, filter}
use Rattle.std.specs.List.{range_with_len}
use Rattle.twin_tape.specs.Permitted.{has}
use Rattle.twin_tape.proofs.indices.ascending.Given as goal

abbrev pub invariant-loop-i : goal.invariant-loop-i
invariant-loop-i l = l.found ≡ filter (has l.indices) (range_with_len 0 l.i)
