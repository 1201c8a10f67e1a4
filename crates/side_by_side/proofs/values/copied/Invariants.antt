use Rattle.std.proofs.Common.{◌≡◌, take}
use Rattle.side_by_side.proofs.values.copied.Given as goal

abbrev pub invariant-loop-k : goal.invariant-loop-k
invariant-loop-k l = l.copy ≡ take l.k l.row
