use Rattle.std.proofs.Common.{subst, lit<, arith}
use Rattle.hpc2_gadget.proofs.Sizes.{array_fits}
use Rattle.pipeline_balance.specs.Valued.{IsValue}
use Rattle.pipeline_balance.proofs.Making.{only_public}
use Rattle.pipeline_balance.proofs.values.public_product.Goals as goal

pub and_public-requires : goal.and_public-requires
and_public-requires g c =
    let n = g.row.S in
    (lit< tt, (only_public c.args.builder.now c.args.x.now.shares c.requires.left, ((subst (IsValue n c.args.builder.now) c.in-Public.is c.requires.right), (omega arith, omega arith))))

pub and_public-requires-in-Secret : goal.and_public-requires-in-Secret
and_public-requires-in-Secret g c =
    let n = g.row.S in
    (array_fits n c.requires.size.1, (only_public c.args.builder.now c.args.x.now.shares c.requires.left, ((subst (IsValue n c.args.builder.now) c.in-Secret.is c.requires.right), c.requires.size)))
