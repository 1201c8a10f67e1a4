use Rattle.std.proofs.Common.{subst, lit<, arith}
use Rattle.hpc2_gadget.proofs.Sizes.{array_fits}
use Rattle.pipeline_balance.specs.Valued.{IsValue}
use Rattle.pipeline_balance.proofs.Bridges.{delays_carry}
use Rattle.pipeline_balance.proofs.Making.{by_call, so, one_fits_order, all_fit_order}
use Rattle.pipeline_balance.proofs.values.delayed.Goals as goal

pub delay-requires : goal.delay-requires
delay-requires g c =
    let n = g.row.S in
    (lit< tt, ((subst (IsValue n c.args.builder.now) c.in-Public.is c.requires.value), (omega arith, omega arith)))

pub delay-requires-in-Secret : goal.delay-requires-in-Secret
delay-requires-in-Secret g c =
    let n = g.row.S in
    (array_fits n c.requires.size.1, ((subst (IsValue n c.args.builder.now) c.in-Secret.is c.requires.value), c.requires.size))

pub returns-in_ok-next-in-Public-clause-made : goal.returns-in_ok-next-in-Public-clause-made
returns-in_ok-next-in-Public-clause-made g c =
    let n = g.row.S in
    let d = c.in_ok-next-in-Public.ensures in
    rw c.in-Public.is (so 1 _ _ _ _ _ _ _ (λ cycles bits f p. delays_carry 1 cycles p bits c.in-Public.wire.shares c.in_ok-next-in-Public.next.shares f) (by_call 1 _ _ _ _ (one_fits_order g.row.S) d.extends d.stays d.cells d.network d.shares d.value))

pub returns-in_ok-next-in-Secret-clause-made : goal.returns-in_ok-next-in-Secret-clause-made
returns-in_ok-next-in-Secret-clause-made g c =
    let n = g.row.S in
    let d = c.in_ok-next-in-Secret.ensures in
    rw c.in-Secret.is (so n _ _ _ _ _ _ _ (λ cycles bits f p. delays_carry n cycles p bits c.in-Secret.sharing.shares c.in_ok-next-in-Secret.next.shares f) (by_call n _ _ _ _ (all_fit_order n c.requires.size.0) d.extends d.stays d.cells d.network d.shares d.value))
