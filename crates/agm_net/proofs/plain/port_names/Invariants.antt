use Rattle.std.proofs.Common.{◌≡◌, ℕ, List, take}
use Rattle.std.specs.List.{list_any}
use Rattle.std.specs.Str.{bytes_eq}
use Rattle.agm_net.proofs.plain.port_names.Given as goal

abbrev pub invariant-loop-port : goal.invariant-loop-port
invariant-loop-port l = (name : List ℕ) → list_any (λ n. bytes_eq n name) l.names ≡ list_any (λ p. bytes_eq p.name name) (take l.port-index l.ports)
