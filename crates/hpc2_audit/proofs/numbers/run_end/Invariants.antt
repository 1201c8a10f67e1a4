use Rattle.std.proofs.Common.{take}
use Rattle.hpc2_audit.specs.Cuts.{AreBetween}
use Rattle.hpc2_audit.proofs.numbers.run_end.Given as goal

abbrev pub invariant-loop-i : goal.invariant-loop-i
invariant-loop-i l = AreBetween l.low l.high (take l.i l.bytes)
