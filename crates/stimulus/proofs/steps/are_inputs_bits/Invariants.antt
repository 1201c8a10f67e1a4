use Rattle.std.proofs.Common.{◌≡◌, List, drop, map}
use Rattle.stimulus.specs.Asked.{has_bits, names_of, text_of}
use Rattle.stimulus.specs.declared.texts.Member.{Member}
use Rattle.stimulus.proofs.steps.are_inputs_bits.Given as goal

abbrev pub invariant-loop-k : goal.invariant-loop-k
invariant-loop-k l = (step : List Member) → l.texts ≡ map (text_of step) (names_of l.inputs) → has_bits (drop l.k l.inputs) step ≡ has_bits l.inputs step
