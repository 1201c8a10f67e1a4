use Rattle.std.proofs.Common.{List, ℕ, Option, [], flat_map, unwrap_or, ap, ◌∙◌}
use Rattle.std.proofs.lemmas.List.{take_all}
use Rattle.stimulus.proofs.Rows.{rows_are}
use Rattle.stimulus.specs.Answer.{bits_in}
use Rattle.stimulus.proofs.steps.row_of_texts.Goals as goal

pub returns : goal.returns
returns c step all =
    let row = flat_map (λ (t : Option (List ℕ)). bits_in (unwrap_or t [])) in
    c.loop-text.invariant ∙ (ap row (take_all c.loop-text.text-index c.args.texts.now c.loop-text-test.false ∙ all) ∙ rows_are c.args.inputs.now step)
