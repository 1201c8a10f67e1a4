use Rattle.std.proofs.Common.{◌≡◌, filter, take, bytes_eq}
use Rattle.std.specs.List.{flat_map}
use Rattle.side_by_side.proofs.watched.wires_named.Given as goal

abbrev pub invariant-loop-port : goal.invariant-loop-port
invariant-loop-port l = l.wires ≡ flat_map (λ p. p.bits) (filter (λ p. bytes_eq p.name l.name) (take l.port-index l.net.ports))
