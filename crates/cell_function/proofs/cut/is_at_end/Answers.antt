use Rattle.std.proofs.Common.{sym, ap, ◌∙◌}
use Rattle.cell_function.specs.Parts.{is_nil}
use Rattle.cell_function.proofs.Row.{nil_is}
use Rattle.cell_function.proofs.cut.is_at_end.Goals as goal

pub returns : goal.returns
returns c = c.is_empty.ensures ∙ (sym (nil_is c.behind_gaps.result.now c.behind_gaps.ensures.none) ∙ ap is_nil c.behind_gaps.ensures.all)
