use Rattle.std.proofs.Common.{◌≡◌, ℕ, List, map, take}
use Rattle.top_module.specs.declared.facts.PortFacts.{PortFacts}
use Rattle.top_module.proofs.ports.at_places.Given as goal

abbrev pub invariant-loop-own : goal.invariant-loop-own
invariant-loop-own l = (f : List ℕ → PortFacts) → l.facts ≡ map f l.table → l.list ≡ map f (take l.own-index l.names)
