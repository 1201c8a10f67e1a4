use Rattle.std.proofs.Common.{length}
use Rattle.shared_tape.specs.Filled.{filled}
use Rattle.shared_tape.specs.Rows.{tape_row}
use Rattle.shared_tape.proofs.Parts.{rows_more}
use Rattle.shared_tape.proofs.tape.rows_of.Goals as goal

pub loop-cycle-preserved : goal.loop-cycle-preserved
loop-cycle-preserved c =
    let it = c.args.sharer.now in
    rows_more (tape_row c.args.seed.now c.args.report.now it.secrets it.inputs (filled (length it.secrets) c.args.width c.args.report.now.streams it.steps c.args.streams.now) it.steps) c.loop-cycle.cycle c.loop-cycle.rows
    c.push.new.self c.in_ok-row.field-0 c.loop-cycle.invariant c.in_ok-row.ensures c.in_ok-push.ensures.ok
