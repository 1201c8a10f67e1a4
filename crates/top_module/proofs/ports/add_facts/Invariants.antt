use Rattle.std.proofs.Common.{◌≡◌, ℕ, List, map, length, take}
use Rattle.top_module.specs.Steps.{joined_among}
use Rattle.top_module.specs.declared.facts.PortFacts.{PortFacts}
use Rattle.top_module.proofs.ports.add_facts.Given as goal

abbrev pub invariant-loop-own : goal.invariant-loop-own
invariant-loop-own l = record {
  long : length l.facts ≡ length l.names;
  grown : (f : List ℕ → PortFacts) → l.fn.facts ≡ map f l.names → l.facts ≡ map (λ name. joined_among (take l.own-index l.declared) l.more (f name) name) l.names;
}
