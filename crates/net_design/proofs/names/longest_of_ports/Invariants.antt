use Rattle.std.proofs.Common.{◌≡◌, fold, map, take}
use Rattle.net_design.specs.Design.{longer, port_name}
use Rattle.net_design.proofs.names.longest_of_ports.Given as goal

abbrev pub invariant-loop-port : goal.invariant-loop-port
invariant-loop-port l = l.most ≡ fold longer l.start (map port_name (take l.port-index l.ports))
