use Rattle.share_wiring.proofs.Closing.{held_made}
use Rattle.share_wiring.proofs.builder.Builder.hold.Goals as goal

pub returns-clause-value : goal.returns-clause-value
returns-clause-value g c cycles bits run =
    let kept = c.in_ok-sharing.ensures.adds cycles bits run in (kept.0, tt)

pub returns-clause-held : goal.returns-clause-held
returns-clause-held g c = held_made g.row.S _ _ _ _ _ c.in_ok-sharing.ensures.made
