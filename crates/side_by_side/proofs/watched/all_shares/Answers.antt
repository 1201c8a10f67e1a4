use Rattle.std.proofs.Common.{ap, ◌∙◌}
use Rattle.agm_net.specs.Role.{share_name}
use Rattle.agm_net.specs.View.{plain_of}
use Rattle.side_by_side.specs.Pairs.{wires_named}
use Rattle.side_by_side.proofs.More.{numbers_more}
use Rattle.side_by_side.proofs.watched.all_shares.Goals as goal

pub loop-i-preserved : goal.loop-i-preserved
loop-i-preserved c =
    let net = plain_of c.args.net.now in
    numbers_more (λ i. wires_named net (share_name i c.args.name.now)) c.loop-i.i c.loop-i.shares c.push.new.self c.in_ok-wires_named.field-0 c.loop-i.invariant
    (c.in_ok-wires_named.ensures ∙ ap (wires_named net) (c.as_slice.ensures ∙ c.in_ok-share.ensures)) c.in_ok-push.ensures.ok
