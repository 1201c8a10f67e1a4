use Rattle.std.proofs.Common.{◌≡◌, ◌++◌, take, map, filter}
use Rattle.agm_net.specs.Plain.{is_input}
use Rattle.stimulus.specs.Asked.{input_of}
use Rattle.stimulus.proofs.inputs.add_inputs.Given as goal

abbrev pub invariant-loop-port : goal.invariant-loop-port
invariant-loop-port l = l.inputs ≡ l.initial.inputs ++ map input_of (filter is_input (take l.port-index l.ports))
