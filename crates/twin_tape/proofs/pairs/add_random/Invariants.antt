use Rattle.std.proofs.Common.{◌≡◌, ◌++◌, filter, take}
use Rattle.std.specs.List.{flat_map}
use Rattle.twin_tape.specs.Pairs.{is_random_port}
use Rattle.twin_tape.proofs.pairs.add_random.Given as goal

abbrev pub invariant-loop-port : goal.invariant-loop-port
invariant-loop-port l = l.wires ≡ l.fn.wires ++ flat_map (λ p. p.bits) (filter is_random_port (take l.port-index l.ports))
