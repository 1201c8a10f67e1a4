use Rattle.std.proofs.Common.{◌≡◌, ◌+◌, drop}
use Rattle.shared_tape.specs.Inputs.{sharings}
use Rattle.shared_tape.proofs.inputs.sharings.Given as goal

abbrev pub invariant-loop-input : goal.invariant-loop-input
invariant-loop-input l = l.count + sharings (drop l.input-index l.inputs) ≡ sharings l.inputs
