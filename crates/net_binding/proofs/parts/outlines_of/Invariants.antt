use Rattle.std.proofs.Common.{◌≡◌, length}
use Rattle.net_binding.specs.Ready.{AreOutlines}
use Rattle.net_binding.proofs.parts.outlines_of.Given as goal

abbrev pub invariant-loop-unit : goal.invariant-loop-unit
invariant-loop-unit l = (length l.outlines ≡ l.unit-index) × AreOutlines l.modules l.outlines
