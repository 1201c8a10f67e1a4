use Rattle.std.proofs.Common.{replicate}
use Rattle.share_wiring.proofs.StepValues.{always}
use Rattle.share_wiring.proofs.builder.Builder.constant.Goals as goal

pub returns-clause-value : goal.returns-clause-value
returns-clause-value g c cycles bits run =
    let kept = c.in_ok-sharing.ensures.adds cycles bits run in
    (kept.0, always g.row.S cycles bits c.args.bit (replicate g.row.S 0) (replicate g.row.S 0) c.in_ok-sharing.sharing.shares c.requires.size.0 kept.1)
