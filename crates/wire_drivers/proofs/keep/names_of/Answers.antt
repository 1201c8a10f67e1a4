use Rattle.std.proofs.Common.{◌++◌, ap, sym, ◌∙◌}
use Rattle.wire_drivers.specs.Counted.{name_at}
use Rattle.wire_drivers.proofs.keep.names_of.Goals as goal
use Rattle.wire_drivers.proofs.Ranges.{flat_more}

pub loop-wire-preserved : goal.loop-wire-preserved
loop-wire-preserved c =
    c.in_ok-push_name.ensures
    ∙ (ap (λ xs. xs ++ name_at c.args.drivers.now c.args.wires.now c.loop-wire.wire) c.loop-wire.invariant
    ∙ sym (flat_more (name_at c.args.drivers.now c.args.wires.now) c.loop-wire.wire))
