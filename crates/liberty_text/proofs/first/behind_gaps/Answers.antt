use Rattle.std.proofs.Common.{◌≡◌, Some, ◌∙◌, arith}
use Rattle.liberty_text.specs.First.{gap_at}
use Rattle.liberty_text.proofs.Gaps.{gap_shorter}
use Rattle.liberty_text.proofs.Row.{over_gap}
use Rattle.liberty_text.proofs.first.behind_gaps.Goals as goal

pub loop-behind-smaller : goal.loop-behind-smaller
loop-behind-smaller c =
    let found : gap_at c.loop-behind.rest.now ≡ Some c.in-Some.behind.now = cc in
    gap_shorter c.loop-behind.rest.now c.in-Some.behind.now found

pub loop-behind-preserved : goal.loop-behind-preserved
loop-behind-preserved c =
    let found : gap_at c.loop-behind.rest.now ≡ Some c.in-Some.behind.now = cc in
    (over_gap c.loop-behind.rest.now c.in-Some.behind.now found ∙ c.loop-behind.invariant.0, omega (arith, gap_shorter c.loop-behind.rest.now c.in-Some.behind.now found))
