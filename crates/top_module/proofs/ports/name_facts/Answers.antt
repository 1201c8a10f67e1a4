use Rattle.std.proofs.Common.{ℕ, replicate, ap, ◌∙◌}
use Rattle.top_module.proofs.Grown.{nothing_said}
use Rattle.top_module.specs.Steps.{no_facts}
use Rattle.top_module.proofs.ports.name_facts.Goals as goal

pub add_items-requires : goal.add_items-requires
add_items-requires c =
    c.as_mut_slice.ensures.value ∙ (c.in_ok-facts.ensures ∙ (ap (λ (n : ℕ). replicate n no_facts) c.len.ensures ∙ nothing_said c.args.names.now))
