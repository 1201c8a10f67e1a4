use Rattle.std.proofs.Common.{◌≡◌, replicate}
use Rattle.top_module.specs.Steps.{no_facts}
use Rattle.top_module.proofs.ports.blank.Given as goal

abbrev pub invariant-loop : goal.invariant-loop
invariant-loop l = l.facts.items ≡ replicate l.counter no_facts
