use Rattle.std.proofs.Common.{◌≡◌, ◌++◌, take}
use Rattle.shared_tape.proofs.sharing.push_bits.Given as goal

abbrev pub invariant-loop-bit : goal.invariant-loop-bit
invariant-loop-bit l = l.row ≡ l.initial.row ++ take l.bit-index l.bits
