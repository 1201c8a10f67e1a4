use Rattle.std.proofs.Common.{◌≡◌, take}
use Rattle.shared_tape.proofs.sharing.bits_of.Given as goal

abbrev pub invariant-loop-k : goal.invariant-loop-k
invariant-loop-k l = l.bits ≡ take l.k l.row
