use Rattle.std.proofs.Common.{◌≡◌, take}
use Rattle.stimulus.specs.Asked.{names_of}
use Rattle.stimulus.proofs.inputs.names_of.Given as goal

abbrev pub invariant-loop-input : goal.invariant-loop-input
invariant-loop-input l = l.names ≡ take l.input-index (names_of l.inputs)
