use Rattle.std.proofs.Common.{ℕ, Some, List, [], ◌∷◌, ◌++◌, take, map, sym, ap, ap₂, ◌∙◌}
use Rattle.std.proofs.lemmas.List.{take_more, map-append}
use Rattle.std.proofs.lemmas.Option.{slice_get-get_or}
use Rattle.top_module.proofs.Placed.{among_at}
use Rattle.top_module.specs.declared.facts.PortFacts.{PortFacts}
use Rattle.top_module.proofs.ports.at_places.Goals as goal

pub loop-own-preserved : goal.loop-own-preserved
loop-own-preserved c f all =
    let i = c.loop-own.own-index in
    let more = take_more c.args.names.now i c.own-item.result c.loop-own-test.true ∙ ap (λ (n : List ℕ). take i c.args.names.now ++ n ∷ []) (sym c.own-item.is) in
    let here = slice_get-get_or c.args.names.now i c.own-item.result c.loop-own-test.true ∙ ap Some (sym c.own-item.is) in
    c.in_ok-push.ensures.ok
    ∙ (ap₂ (λ (xs : List PortFacts) (x : PortFacts). xs ++ x ∷ []) (c.loop-own.invariant f all) (c.facts_at.ensures f all (c.requires.among c.own-item.result ∙ among_at c.args.names.now i c.own-item.result here))
    ∙ sym (ap (map f) more ∙ map-append f (take i c.args.names.now) (c.own-item.result ∷ [])))
