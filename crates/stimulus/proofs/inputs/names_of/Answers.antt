use Rattle.stimulus.proofs.Named.{one_added}
use Rattle.stimulus.proofs.inputs.names_of.Goals as goal

pub loop-input-preserved : goal.loop-input-preserved
loop-input-preserved c =
    one_added c.args.inputs.now c.loop-input.input-index c.input-item.result c.loop-input-test.true c.input-item.is c.requires c.as_slice.result.now c.as_slice.ensures c.loop-input.names c.loop-input.invariant
    c.in_ok-add.field-0.is_new c.in_ok-add.ensures.fresh c.add.new.self c.in_ok-add.ensures.added
