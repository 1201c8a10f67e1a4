use Rattle.std.proofs.Common.{◌≡◌, ◌-◌}
use Rattle.form_bits.specs.Forms.{run}
use Rattle.bound_items.proofs.inside.wires_from.Given as goal

abbrev pub invariant-loop-wire : goal.invariant-loop-wire
invariant-loop-wire l = l.bits ≡ run l.start (l.wire - l.start)
