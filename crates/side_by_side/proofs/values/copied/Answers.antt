use Rattle.std.proofs.Common.{◌++◌, ◌∷◌, [], ap, sym, ◌∙◌}
use Rattle.shared_tape.proofs.Rows.{bit_more}
use Rattle.side_by_side.proofs.values.copied.Goals as goal

pub loop-k-preserved : goal.loop-k-preserved
loop-k-preserved c =
    c.in_ok-push.ensures.ok ∙ (ap (λ bits. bits ++ c.get.result ∷ []) c.loop-k.invariant ∙ sym (bit_more c.args.row.now c.loop-k.k c.get.result c.get.ensures))
