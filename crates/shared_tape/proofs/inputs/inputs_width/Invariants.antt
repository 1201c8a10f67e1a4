use Rattle.std.proofs.Common.{◌≡◌, ◌+◌, drop}
use Rattle.shared_tape.specs.Inputs.{inputs_width}
use Rattle.shared_tape.proofs.inputs.inputs_width.Given as goal

abbrev pub invariant-loop-input : goal.invariant-loop-input
invariant-loop-input l = l.count + inputs_width l.order (drop l.input-index l.inputs) ≡ inputs_width l.order l.inputs
