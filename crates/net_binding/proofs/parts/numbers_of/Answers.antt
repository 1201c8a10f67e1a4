use Rattle.net_binding.proofs.parts.numbers_of.Goals as goal
use Rattle.net_binding.proofs.Numbers.{number_on}

pub loop-unit-preserved : goal.loop-unit-preserved
loop-unit-preserved c =
    number_on c.args.modules.now c.loop-unit.unit-index c.unit-item.result c.loop-unit.numbers c.add.new.self c.as_slice.result.now c.in_ok-add.field-0.is_new
    c.unit-item.is c.loop-unit-test.true c.as_slice.ensures c.loop-unit.invariant c.in_ok-add.ensures.fresh c.in_ok-add.ensures.added
