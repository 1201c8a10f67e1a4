use Rattle.net_binding.proofs.parts.numbers_of.Given as goal
use Rattle.net_binding.proofs.Numbers.{AreNumbered}

abbrev pub invariant-loop-unit : goal.invariant-loop-unit
invariant-loop-unit l = AreNumbered l.modules l.unit-index l.numbers
