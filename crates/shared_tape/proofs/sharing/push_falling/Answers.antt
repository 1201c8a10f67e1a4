use Rattle.shared_tape.specs.Sharing.{share_row}
use Rattle.shared_tape.proofs.Sharings.{row_grown}
use Rattle.std.proofs.Common.{◌++◌, ap, reverse, ◌∙◌}
use Rattle.shared_tape.proofs.sharing.push_falling.Goals as goal

pub loop-i-preserved : goal.loop-i-preserved
loop-i-preserved c =
    row_grown (λ i. reverse (share_row c.args.draws.now c.args.order 0 c.args.values.now i)) c.args.row.now c.loop-i.row c.push_bits.new.row c.loop-i.i c.loop-i.invariant
    (c.in_ok-push_bits.ensures ∙ ap (λ xs. c.loop-i.row ++ xs) (c.as_slice.ensures ∙ c.in_ok-shares.ensures))
