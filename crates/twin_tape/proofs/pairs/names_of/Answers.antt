use Rattle.std.proofs.Common.{sym, subst, ◌≡◌, get_or}
use Rattle.twin_tape.proofs.Naming.{names_more}
use Rattle.twin_tape.proofs.pairs.names_of.Goals as goal

pub loop-wire-preserved : goal.loop-wire-preserved
loop-wire-preserved c =
    let own = c.as_slice.result.now in
    let item = c.wire-item.result in
    names_more c.args.wires.now c.loop-wire.names c.add.new.self c.loop-wire.wire-index own c.in_ok-add.field-0.is_new c.requires c.loop-wire-test.true
    (subst (λ x. x ≡ get_or c.args.wires.now c.loop-wire.wire-index x) (sym c.as_slice.ensures) c.wire-item.is)
    c.in_ok-add.ensures.fresh c.in_ok-add.ensures.added c.loop-wire.invariant
