use Rattle.std.proofs.Common.{◌≡◌, take, fold}
use Rattle.agm_net.specs.Checks.{counted, port_bits}
use Rattle.agm_net.proofs.checks.count_ports.Given as goal

abbrev pub invariant-loop-port : goal.invariant-loop-port
invariant-loop-port l = l.counts ≡ fold counted l.initial.counts (port_bits (take l.port-index l.ports))
