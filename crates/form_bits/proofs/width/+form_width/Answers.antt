use Rattle.form_bits.specs.Forms.{look_in}
use Rattle.form_bits.proofs.width.+form_width.Goals as goal
use Rattle.form_bits.proofs.Widths.{at_end}

pub returns-after-loop-inner : goal.returns-after-loop-inner
returns-after-loop-inner t c =
    at_end (look_in c.args.scope.now.names c.args.scope.now.spots) c.as_slice-inner-items.result.now c.loop-inner.inner-index c.loop-inner.width _ _ c.loop-inner-test.false c.loop-inner.invariant.0 c.loop-inner.invariant.1
