use Rattle.std.proofs.Common.{subst}
use Rattle.hpc2_gadget.proofs.Sizes.{array_fits}
use Rattle.pipeline_balance.specs.Valued.{IsValue}
use Rattle.pipeline_balance.proofs.Bridges.{masks_join_second}
use Rattle.pipeline_balance.proofs.Making.{by_call, so, only_public, all_fit_order}
use Rattle.pipeline_balance.proofs.values.secret_product.Goals as goal

pub and_public-requires : goal.and_public-requires
and_public-requires g c =
    let n = g.row.S in
    (array_fits n c.requires.size.1, (only_public c.args.builder.now c.in-Public.wire.shares (subst (IsValue n c.args.builder.now) c.in-Public.is c.requires.right), (c.requires.left, c.requires.size)))

pub returns-clause-made : goal.returns-clause-made
returns-clause-made g c =
    let n = g.row.S in
    let d = c.in_ok-product-in-Public.ensures in
    rw c.in-Public.is
    (so n _ _ _ _ _ _ _ (λ cycles bits f. masks_join_second n cycles bits c.in-Public.wire.shares c.args.x.now.shares c.in_ok-product-in-Public.product.shares f) (by_call n _ _ _ _ (all_fit_order n c.requires.size.0) d.extends d.stays d.cells d.network d.shares d.value))
