use Rattle.std.proofs.Common.{replicate}
use Rattle.std.proofs.lemmas.List.{get_or-replicate}
use Rattle.share_wiring.proofs.StepValues.{publics}
use Rattle.share_wiring.proofs.builder.Builder.public.Goals as goal

pub returns-clause-value : goal.returns-clause-value
returns-clause-value g c cycles bits run =
    let kept = c.in_ok-sharing.ensures.adds cycles bits run in
    (kept.0, publics g.row.S cycles bits c.args.wire (replicate g.row.S c.args.wire) (replicate g.row.S c.args.wire) c.in_ok-sharing.sharing.shares c.requires.size.0 (λ i lt. get_or-replicate g.row.S i c.args.wire 0 lt) kept.1)
