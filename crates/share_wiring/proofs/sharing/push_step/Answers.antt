use Rattle.std.proofs.Common.{ap, ◌∙◌}
use Rattle.share_wiring.specs.Wiring.{share}
use Rattle.share_wiring.specs.Own.{source_of, own_name}
use Rattle.share_wiring.proofs.OwnWires.{one_own}
use Rattle.share_wiring.proofs.sharing.push_step.Goals as goal

pub loop-i-preserved : goal.loop-i-preserved
loop-i-preserved g c =
    one_own g.row.S c.loop-i.i (λ i. source_of c.args.step i (share c.args.x.now.shares i) (share c.args.y.now.shares i)) c.args.wires.now.items c.loop-i.wires.items c.push.new.self.items c.in_ok-name.name c.source-source.result
    c.loop-i.invariant (c.in_ok-name.ensures ∙ ap (own_name g.row.S c.loop-i.i) (c.len.ensures ∙ c.loop-i.wires.ok.0)) c.source-source.ensures c.in_ok-push.ensures.items
