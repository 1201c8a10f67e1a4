use Rattle.std.proofs.Common.{◌≡◌, ◌++◌, drop}
use Rattle.secrecy_spread.specs.Wires as spec
use Rattle.secrecy_spread.proofs.wires.secure_bits.Given as goal

abbrev pub invariant-loop-n : goal.invariant-loop-n
invariant-loop-n l = l.bits ++ spec.secure_bits (drop l.n l.ports) (drop l.n l.marks) ≡ spec.secure_bits l.ports l.marks
