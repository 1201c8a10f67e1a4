use Rattle.std.proofs.Common.{◌≡◌, ◌++◌, ◌-◌}
use Rattle.form_bits.specs.Forms.{repeated}
use Rattle.form_bits.proofs.bits.push_repeated.Given as goal

abbrev pub invariant-loop : goal.invariant-loop
invariant-loop l = l.bits ++ repeated (l.times - l.counter) l.once ≡ l.initial.bits ++ repeated l.times l.once
