use Rattle.share_wiring.proofs.StepValues.{masks}
use Rattle.share_wiring.proofs.builder.Builder.and_public.Goals as goal

pub returns-clause-value : goal.returns-clause-value
returns-clause-value g c cycles bits run =
    let kept = c.in_ok-product.ensures.adds cycles bits run in
    (kept.0, masks g.row.S cycles bits c.args.wire c.args.x.now.shares c.args.x.now.shares c.in_ok-product.product.shares kept.1)
