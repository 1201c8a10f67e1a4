use Rattle.std.proofs.Common.{◌≡◌, ◌++◌, take}
use Rattle.std.specs.List.{flat_map}
use Rattle.hpc2_audit.proofs.places.add_bits.Given as goal

abbrev pub invariant-loop-port : goal.invariant-loop-port
invariant-loop-port l = l.bits ≡ l.fn.bits ++ flat_map (λ p. p.bits) (take l.port-index l.ports)
