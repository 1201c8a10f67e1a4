use Rattle.std.proofs.Common.{Bool, cond, refl, sym, ap, ◌∙◌}
use Rattle.std.specs.Cmp.Lexicographic.{bytes_decides}
use Rattle.top_module.proofs.Placed.{found_at, set_at, none_at}
use Rattle.top_module.specs.Steps.{no_facts, joined, joined_at}
use Rattle.top_module.specs.declared.facts.PortFacts.{PortFacts}
use Rattle.top_module.proofs.ports.add_fact.Goals as goal

pub returns-in-Some : goal.returns-in-Some
returns-in-Some c f all =
    set_at c.args.names.now c.as_slice.result.now c.args.own.now c.in-Some.place f (λ n. joined_at c.args.own.now c.args.more (f n) n) c.args.facts.now c.joined.result no_facts c.differ.ensures all c.as_slice.ensures c.in-Some.ensures
    (λ n other. sym (ap (λ (b : Bool). cond b (joined (f n) c.args.more) (f n)) other))
    (c.joined.ensures
    ∙ (ap (λ (x : PortFacts). joined x c.args.more) (found_at f c.args.names.now c.args.facts.now c.as_slice.result.now c.args.own.now c.in-Some.place _ all c.as_slice.ensures (sym c.in-Some.ensures))
    ∙ sym (ap (λ (b : Bool). cond b (joined (f c.args.own.now) c.args.more) (f c.args.own.now)) ((bytes_decides c.args.own.now c.args.own.now).1 refl))))

pub returns-in_default : goal.returns-in_default
returns-in_default c f all =
    all ∙ none_at c.args.names.now c.as_slice.result.now c.args.own.now f (λ n. joined_at c.args.own.now c.args.more (f n) n) c.as_slice.ensures c.in_default.ensures
    (λ n other. sym (ap (λ (b : Bool). cond b (joined (f n) c.args.more) (f n)) other))
