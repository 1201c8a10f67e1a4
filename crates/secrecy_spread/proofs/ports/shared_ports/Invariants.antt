use Rattle.std.proofs.Common.{◌≡◌, ◌++◌, map, drop}
use Rattle.std.specs.List.{zip}
use Rattle.secrecy_spread.specs.Wires.{is_shared}
use Rattle.secrecy_spread.proofs.ports.shared_ports.Given as goal

abbrev pub invariant-loop-n : goal.invariant-loop-n
invariant-loop-n l =
    l.flags ++ map (λ e. is_shared l.secret e.0 e.1) (zip (drop l.n l.ports) (drop l.n l.marks)) ≡ map (λ e. is_shared l.secret e.0 e.1) (zip l.ports l.marks)
