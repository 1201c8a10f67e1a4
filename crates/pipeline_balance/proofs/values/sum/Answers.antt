use Rattle.std.proofs.Common.{subst}
use Rattle.hpc2_gadget.proofs.Sizes.{array_fits}
use Rattle.pipeline_balance.specs.Valued.{IsValue}
use Rattle.pipeline_balance.proofs.Sizes.{value_fits}
use Rattle.pipeline_balance.proofs.values.sum.Goals as goal

pub public_sum-requires : goal.public_sum-requires
public_sum-requires g c =
    let n = g.row.S in
    (value_fits n c.requires.size.1, (c.requires.size, ((subst (IsValue n c.args.builder.now) c.in-Public.is c.requires.left), c.requires.right)))

pub secret_sum-requires : goal.secret_sum-requires
secret_sum-requires g c =
    let n = g.row.S in
    (array_fits n c.requires.size.1, (value_fits n c.requires.size.1, (c.requires.size, ((subst (IsValue n c.args.builder.now) c.in-Secret.is c.requires.left), c.requires.right))))
