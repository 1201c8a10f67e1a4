use Rattle.std.proofs.Common.{◌≡◌, Some, ◌∙◌}
use Rattle.cell_function.specs.Parts.{gap_at}
use Rattle.cell_function.proofs.Row.{gap_shorter, over_gap}
use Rattle.cell_function.proofs.cut.behind_gaps.Goals as goal

pub loop-behind-smaller : goal.loop-behind-smaller
loop-behind-smaller c =
    let found : gap_at c.loop-behind.rest.now ≡ Some c.in-Some.behind.now = cc in
    gap_shorter c.loop-behind.rest.now c.in-Some.behind.now found

pub loop-behind-preserved : goal.loop-behind-preserved
loop-behind-preserved c =
    let found : gap_at c.loop-behind.rest.now ≡ Some c.in-Some.behind.now = cc in
    over_gap c.loop-behind.rest.now c.in-Some.behind.now found ∙ c.loop-behind.invariant
