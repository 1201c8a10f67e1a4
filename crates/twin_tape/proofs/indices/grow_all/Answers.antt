use Rattle.std.proofs.Common.{◌≡◌, ◌-◌, suc, sym, ap, ◌∙◌, arith}
use Rattle.twin_tape.specs.Permitted.{grown, known}
use Rattle.twin_tape.proofs.Stages.{begins_so, down_to_latest, latest_within, takes_stage}
use Rattle.twin_tape.proofs.indices.grow_all.Goals as goal

pub loop-next-init : goal.loop-next-init
loop-next-init c = λ A T is all. (
    let next = c.latest-next.ensures in
    is ∙ sym (ap (known c.args.sights.now A T) next ∙ begins_so c.args.sights.now A T _ c.requires))

pub loop-next-smaller : goal.loop-next-smaller
loop-next-smaller c =
    let e = c.latest-next-in-loop-next.ensures in
    let le = latest_within c.args.sights.now (c.loop-next.next - 1) in
    let some = c.loop-next-test.true in
    omega (arith, e, le, some)

pub loop-next-preserved : goal.loop-next-preserved
loop-next-preserved c = λ A T is all. (
    let ss = c.args.sights.now in
    let n = c.loop-next.next - 1 in
    let some = c.loop-next-test.true in
    let e : c.loop-next.next ≡ suc n = omega (arith, some) in
    c.in_ok-grow.ensures ∙ (ap (grown ss n) (c.loop-next.invariant A T is all ∙ ap (known ss A T) e)
    ∙ (takes_stage ss A T all n ∙ sym (ap (known ss A T) c.latest-next-in-loop-next.ensures ∙ down_to_latest ss A T n))))
