use Rattle.std.proofs.Common.{◌≡◌, ◌++◌, ◌-◌}
use Rattle.form_bits.specs.Forms.{run}
use Rattle.form_bits.proofs.bits.push_run.Given as goal

abbrev pub invariant-loop-k : goal.invariant-loop-k
invariant-loop-k l = l.bits ≡ l.initial.bits ++ run l.start (l.k - l.start)
