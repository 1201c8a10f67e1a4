use Rattle.std.proofs.Common.{◌≡◌, map, take, slice_index}
use Rattle.wire_drivers.proofs.keep.bits_of.Given as goal

abbrev pub invariant-loop-bit : goal.invariant-loop-bit
invariant-loop-bit l = l.out ≡ map (λ w. slice_index l.numbers w) (take l.bit-index l.bits)
