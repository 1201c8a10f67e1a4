use Rattle.std.proofs.Common.{◌≡◌, take}
use Rattle.side_by_side.specs.Pairs.{bit_in, rows_in}
use Rattle.side_by_side.proofs.values.rows_in.Given as goal

abbrev pub invariant-loop-wires : goal.invariant-loop-wires
invariant-loop-wires l = l.rows ≡ rows_in (bit_in l.row) (take l.wires-index l.shares)
