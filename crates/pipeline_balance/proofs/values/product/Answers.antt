use Rattle.pipeline_balance.specs.declared.values.Value.{Value}
use Rattle.std.proofs.Common.{◌≡◌, false, ◌&&◌, subst}
use Rattle.hpc2_gadget.proofs.Sizes.{array_fits}
use Rattle.pipeline_balance.specs.Valued.{is_secret, IsValue}
use Rattle.pipeline_balance.proofs.Sizes.{value_fits}
use Rattle.pipeline_balance.proofs.values.product.Goals as goal

pub public_product-requires : goal.public_product-requires
public_product-requires g c =
    let n = g.row.S in
    (value_fits n c.requires.size.1, (c.requires.size, ((subst (IsValue n c.args.builder.now) c.in-Public.is c.requires.left), c.requires.right)))

pub secret_product-requires : goal.secret_product-requires
secret_product-requires g c =
    let n = g.row.S in
    (array_fits n c.requires.size.1, (value_fits n c.requires.size.1, (c.requires.size, ((subst (IsValue n c.args.builder.now) c.in-Secret.is c.requires.left), (c.requires.right, subst (λ (v : Value n). (is_secret v && is_secret c.args.y.now) ≡ false) c.in-Secret.is c.requires.public)))))
