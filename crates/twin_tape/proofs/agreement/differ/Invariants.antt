use Rattle.std.proofs.Common.{◌≡◌, ◌-◌, drop}
use Rattle.twin_tape.specs.Differences.{differ_in}
use Rattle.twin_tape.proofs.agreement.differ.Given as goal

abbrev pub invariant-loop-k : goal.invariant-loop-k
invariant-loop-k l = differ_in (l.to - l.k) (drop l.k l.first) (drop l.k l.second) ≡ differ_in (l.to - l.from) (drop l.from l.first) (drop l.from l.second)
