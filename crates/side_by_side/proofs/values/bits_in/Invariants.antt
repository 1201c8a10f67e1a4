use Rattle.std.proofs.Common.{◌≡◌, map, take}
use Rattle.side_by_side.specs.Pairs.{bit_in}
use Rattle.side_by_side.proofs.values.bits_in.Given as goal

abbrev pub invariant-loop-wire : goal.invariant-loop-wire
invariant-loop-wire l = l.bits ≡ map (bit_in l.row) (take l.wire-index l.wires)
