use Rattle.std.proofs.Common.{◌+◌, false}
use Rattle.std.specs.Prelude.{slice_index_or}
use Rattle.shared_tape.specs.Sharing.{share_bit}
use Rattle.shared_tape.proofs.Rows.{share_more}
use Rattle.shared_tape.proofs.sharing.share_row.Goals as goal

pub loop-b-preserved : goal.loop-b-preserved
loop-b-preserved c =
    share_more (λ b. share_bit c.args.draws.now c.args.order (c.args.first + b) (slice_index_or c.args.values.now b false) c.args.i) c.loop-b.b c.loop-b.shares c.push.new.self c.share_bit.result c.loop-b.invariant
    c.share_bit.ensures c.in_ok-push.ensures.ok
