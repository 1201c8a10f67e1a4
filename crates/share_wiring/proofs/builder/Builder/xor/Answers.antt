use Rattle.share_wiring.proofs.StepValues.{xors}
use Rattle.share_wiring.proofs.builder.Builder.xor.Goals as goal

pub returns-clause-value : goal.returns-clause-value
returns-clause-value g c cycles bits run =
    let kept = c.in_ok-sum.ensures.adds cycles bits run in
    (kept.0, xors g.row.S cycles bits c.args.x.now.shares c.args.y.now.shares c.in_ok-sum.sum.shares kept.1)
