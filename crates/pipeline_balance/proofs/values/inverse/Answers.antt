use Rattle.std.proofs.Common.{subst, lit<, arith}
use Rattle.hpc2_gadget.proofs.Sizes.{array_fits}
use Rattle.pipeline_balance.specs.Valued.{IsValue}
use Rattle.pipeline_balance.proofs.Making.{by_call, one_fits_order, all_fit_order}
use Rattle.pipeline_balance.proofs.values.inverse.Goals as goal

pub not-requires : goal.not-requires
not-requires g c =
    let n = g.row.S in
    (lit< tt, ((subst (IsValue n c.args.builder.now) c.in-Public.is c.requires.value), (omega arith, omega arith)))

pub not-requires-in-Secret : goal.not-requires-in-Secret
not-requires-in-Secret g c =
    let n = g.row.S in
    (array_fits n c.requires.size.1, ((subst (IsValue n c.args.builder.now) c.in-Secret.is c.requires.value), c.requires.size))

pub returns-in_ok-inverted-in-Public-clause-made : goal.returns-in_ok-inverted-in-Public-clause-made
returns-in_ok-inverted-in-Public-clause-made g c =
    let d = c.in_ok-inverted-in-Public.ensures in
    rw c.in-Public.is (by_call 1 _ _ _ _ (one_fits_order g.row.S) d.extends d.stays d.cells d.network d.shares d.value)

pub returns-in_ok-inverted-in-Secret-clause-made : goal.returns-in_ok-inverted-in-Secret-clause-made
returns-in_ok-inverted-in-Secret-clause-made g c =
    let n = g.row.S in
    let d = c.in_ok-inverted-in-Secret.ensures in
    rw c.in-Secret.is (by_call n _ _ _ _ (all_fit_order n c.requires.size.0) d.extends d.stays d.cells d.network d.shares d.value)
