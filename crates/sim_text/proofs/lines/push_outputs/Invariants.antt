use Rattle.std.proofs.Common.{◌≡◌, ◌++◌, filter, not, take}
use Rattle.std.specs.List.{flat_map}
use Rattle.agm_net.specs.Plain.{is_input}
use Rattle.sim_text.specs.Text.{port_text}
use Rattle.sim_text.proofs.lines.push_outputs.Given as goal

abbrev pub invariant-loop-port : goal.invariant-loop-port
invariant-loop-port l = l.text ≡ l.initial.text ++ flat_map (port_text l.row) (filter (λ p. not (is_input p)) (take l.port-index l.ports))
