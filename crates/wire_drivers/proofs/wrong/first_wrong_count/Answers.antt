use Rattle.std.proofs.Common.{sym, ◌∙◌, length}
use Rattle.wire_drivers.specs.Counted.{wrong_at}
use Rattle.wire_drivers.proofs.wrong.first_wrong_count.Goals as goal
use Rattle.wire_drivers.proofs.Ranges.{find_on}

pub loop-wire-preserved : goal.loop-wire-preserved
loop-wire-preserved c =
    find_on (wrong_at c.args.drivers.now c.args.readers.now) c.loop-wire.wire (length c.args.drivers.now) _ c.loop-wire-test.true (sym c.is_wrong.ensures ∙ c.if-is_wrong.false) c.loop-wire.invariant
