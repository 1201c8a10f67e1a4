use Rattle.std.proofs.Common.{◌&&◌, ◌+◌, drop, sym, ap, ◌∙◌}
use Rattle.stimulus.proofs.Rows.{told_here}
use Rattle.stimulus.specs.Asked.{has_bits}
use Rattle.stimulus.proofs.steps.are_inputs_bits.Goals as goal

pub returns-then-not-are_bits : goal.returns-then-not-are_bits
returns-then-not-are_bits c step all =
    let inputs = c.args.inputs.now in let k = c.loop-k.k in
    let here = told_here inputs step c.args.texts.now k c.index-inputs-k.result c.index-texts-k.result c.text_in.result.now c.are_bits.result c.loop-k-test.true c.index-inputs-k.is c.index-texts-k.is all c.text_in.ensures c.are_bits.ensures in
    sym (sym (c.loop-k.invariant step all) ∙ (here ∙ ap (λ b. b && has_bits (drop (k + 1) inputs) step) c.if-not-are_bits.true))

pub loop-k-preserved : goal.loop-k-preserved
loop-k-preserved c step all =
    let inputs = c.args.inputs.now in let k = c.loop-k.k in
    let here = told_here inputs step c.args.texts.now k c.index-inputs-k.result c.index-texts-k.result c.text_in.result.now c.are_bits.result c.loop-k-test.true c.index-inputs-k.is c.index-texts-k.is all c.text_in.ensures c.are_bits.ensures in
    sym (here ∙ ap (λ b. b && has_bits (drop (k + 1) inputs) step) c.if-not-are_bits.false) ∙ c.loop-k.invariant step all
