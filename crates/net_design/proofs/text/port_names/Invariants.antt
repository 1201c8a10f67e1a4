use Rattle.std.proofs.Common.{◌≡◌, map, take}
use Rattle.net_design.specs.Design.{port_name}
use Rattle.net_design.proofs.text.port_names.Given as goal

abbrev pub invariant-loop-port : goal.invariant-loop-port
invariant-loop-port l = l.names ≡ map port_name (take l.port-index l.ports)
