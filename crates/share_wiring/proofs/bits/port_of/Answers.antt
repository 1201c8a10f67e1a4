use Rattle.std.proofs.Common.{◌+◌, ◌++◌, ◌∷◌, [], ap, sym, ◌∙◌}
use Rattle.share_wiring.proofs.PortBits.{range_more}
use Rattle.share_wiring.proofs.bits.port_of.Goals as goal

pub loop-i-preserved : goal.loop-i-preserved
loop-i-preserved c = c.in_ok-push.ensures.ok ∙ (ap (λ xs. xs ++ (c.args.first + c.loop-i.i) ∷ []) c.loop-i.invariant ∙ sym (range_more c.args.first c.loop-i.i))
