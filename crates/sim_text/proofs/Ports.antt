-- The bits of ports are wires.
use Rattle.std.proofs.Common.{◌<◌, ℕ, All, List, [], ◌∷◌}
use Rattle.std.specs.List.{AllByRecursion}
use Rattle.std.proofs.lemmas.List.Elements.{All-nil, All-cons, All-from_recursion}
use Rattle.agm_net.specs.declared.port.Port.{Port}

pub ports_within : (n : ℕ) (ps : List Port) → AllByRecursion (λ p. AllByRecursion (λ w. w < n) p.bits) ps → All (λ p. All (λ w. w < n) p.bits) ps
ports_within n [] h = All-nil (λ (p : Port). All (λ w. w < n) p.bits)
ports_within n (p ∷ ps) h = All-cons (λ (q : Port). All (λ w. w < n) q.bits) p ps (All-from_recursion (λ w. w < n) p.bits h.0) (ports_within n ps h.1)
