use Rattle.std.proofs.Common.{◌≡◌, take}
use Rattle.share_wiring.specs.Recombine.{xor_rows}
use Rattle.side_by_side.proofs.values.xor_rows.Given as goal

abbrev pub invariant-loop-k : goal.invariant-loop-k
invariant-loop-k l = l.sum ≡ xor_rows (take l.k l.one) (take l.k l.other)
