use Rattle.std.proofs.Common.{◌∙◌}
use Rattle.stimulus.proofs.Rows.{keys_told}
use Rattle.stimulus.proofs.steps.has_keys.Goals as goal

pub returns : goal.returns
returns c =
    keys_told c.args.names.now c.args.step.now c.are_among.result c.are_all_there.result c.as_slice.result.now c.are_among.ensures c.if-not-are_among.false (c.as_slice.ensures.value ∙ c.in_ok-texts.ensures) c.are_all_there.ensures
