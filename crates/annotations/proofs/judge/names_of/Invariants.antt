use Rattle.std.proofs.Common.{◌≡◌, take, map}
use Rattle.annotations.proofs.judge.names_of.Given as goal

abbrev pub invariant-loop-port : goal.invariant-loop-port
invariant-loop-port l = l.names ≡ take l.port-index (map (λ p. p.name) l.ports)
