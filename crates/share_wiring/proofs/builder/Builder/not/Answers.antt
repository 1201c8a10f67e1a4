use Rattle.share_wiring.proofs.StepValues.{inverts}
use Rattle.share_wiring.proofs.builder.Builder.not.Goals as goal

pub returns-clause-value : goal.returns-clause-value
returns-clause-value g c cycles bits run =
    let kept = c.in_ok-inverse.ensures.adds cycles bits run in
    (kept.0, inverts g.row.S cycles bits c.args.x.now.shares c.args.x.now.shares c.in_ok-inverse.inverse.shares c.requires.size.0 kept.1)
