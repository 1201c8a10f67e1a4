use Rattle.std.proofs.Common.{◌≡◌, ◌++◌, map, filter, take}
use Rattle.agm_net.specs.Plain.{is_input}
use Rattle.shared_tape.specs.Inputs.{input_of}
use Rattle.shared_tape.proofs.inputs.add_inputs.Given as goal

abbrev pub invariant-loop-port : goal.invariant-loop-port
invariant-loop-port l = l.inputs ≡ l.initial.inputs ++ map (input_of l.report) (filter is_input (take l.port-index l.ports))
