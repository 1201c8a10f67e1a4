use Rattle.std.proofs.Common.{◌≡◌, ◌+◌, ◌++◌, drop, length}
use Rattle.shared_tape.specs.Inputs.{inputs_row, sharings, width_of}
use Rattle.shared_tape.proofs.inputs.push_inputs.Given as goal

abbrev pub invariant-loop-input : goal.invariant-loop-input
invariant-loop-input l = record {
  row : l.row ++ inputs_row l.draws l.order l.first (drop l.input-index l.inputs) l.rest ≡ l.initial.row ++ inputs_row l.draws l.order 0 l.inputs l.values;
  wide : length l.rest ≡ width_of (drop l.input-index l.inputs);
  drawn : l.first + sharings (drop l.input-index l.inputs) ≡ sharings l.inputs;
}
