use Rattle.std.proofs.Common.{◌≡◌, take, true}
use Rattle.std.specs.List.{list_all}
use Rattle.agm_net.specs.Checks.{is_named}
use Rattle.agm_net.proofs.checks.are_ports_named.Given as goal

abbrev pub invariant-loop-port : goal.invariant-loop-port
invariant-loop-port l = list_all (is_named l.wires) (take l.port-index l.ports) ≡ true
