use Rattle.std.proofs.Common.{◌≡◌, ℕ, List, Option, Some, set, sym, subst, ap, ◌∙◌}
use Rattle.std.specs.Prelude.{position}
use Rattle.std.specs.Str.{bytes_eq}
use Rattle.agm_net.proofs.Finds.{not_any}
use Rattle.stimulus.proofs.Placed.{not_placed, placed}
use Rattle.stimulus.proofs.steps.place_text.Goals as goal

pub returns-in-None-clause-placed : goal.returns-in-None-clause-placed
returns-in-None-clause-placed c before are =
    let names = c.args.names.now in let m = c.args.member.now in
    let found = subst (λ (k : List ℕ). c.find.result ≡ position (λ n. bytes_eq n k) names) c.as_slice.ensures c.find.ensures in
    are ∙ not_placed before m names (not_any (λ n. bytes_eq n m.key) names (sym found ∙ c.in-None.is))

pub returns-in_ok-text-in-Some-clause-placed : goal.returns-in_ok-text-in-Some-clause-placed
returns-in_ok-text-in-Some-clause-placed c before are =
    let names = c.args.names.now in let m = c.args.member.now in
    let found = subst (λ (k : List ℕ). c.find.result ≡ position (λ n. bytes_eq n k) names) c.as_slice.ensures c.find.ensures in
    let text : c.in_ok-text-in-Some.text ≡ m.text = c.in_ok-text-in-Some.ensures ∙ c.as_slice-in-Some.ensures in
    c.set_text.ensures ∙ (ap (λ (t : List ℕ). set c.args.texts.now.items c.in-Some.place (Some t)) text ∙ (ap (λ (ts : List (Option (List ℕ))). set ts c.in-Some.place (Some m.text)) are ∙ placed before m names c.in-Some.place c.requires.differ (sym found ∙ c.in-Some.is)))
