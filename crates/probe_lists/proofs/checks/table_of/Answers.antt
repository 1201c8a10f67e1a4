use Rattle.probe_lists.proofs.Tables.{one_added}
use Rattle.probe_lists.proofs.checks.table_of.Goals as goal

pub loop-name-preserved : goal.loop-name-preserved
loop-name-preserved c =
    one_added c.args.names.now c.loop-name.name-index c.name-item.result c.loop-name-test.true c.requires c.name-item.is c.as_slice.result.now c.as_slice.ensures c.loop-name.table c.loop-name.invariant
    c.in_ok-add.field-0.is_new c.in_ok-add.ensures.fresh c.add.new.self c.in_ok-add.ensures.added
