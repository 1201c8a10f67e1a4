use Rattle.secrecy_spread.specs.Wires.{is_leak, NoneBelow}
use Rattle.secrecy_spread.proofs.ports.first_leak.Given as goal

abbrev pub invariant-loop-n : goal.invariant-loop-n
invariant-loop-n l = NoneBelow (is_leak l.secret) l.ports l.marks l.n
