use Rattle.std.proofs.Common.{arith}
use Rattle.probe_text.proofs.Texts.{turned_more}
use Rattle.probe_text.proofs.rows.mirrored_row.Goals as goal

pub loop-k-preserved : goal.loop-k-preserved
loop-k-preserved c =
    let row = c.args.row.now in
    let width = c.len-width.ensures in
    let test = c.loop-k-test.true in
    turned_more row c.loop-k.k c.get.result c.loop-k.turned c.push.new.self (omega arith) (rw (← width) c.get.ensures) c.loop-k.invariant c.in_ok-push.ensures.ok
