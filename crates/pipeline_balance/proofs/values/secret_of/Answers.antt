use Rattle.std.proofs.Common.{subst, refl}
use Rattle.hpc2_gadget.proofs.Sizes.{array_fits}
use Rattle.pipeline_balance.specs.Valued.{IsValue}
use Rattle.pipeline_balance.proofs.Making.{only_public}
use Rattle.pipeline_balance.proofs.Adding.{makes_none}
use Rattle.pipeline_balance.proofs.values.secret_of.Goals as goal

pub public-requires : goal.public-requires
public-requires g c =
    let n = g.row.S in
    (array_fits n c.requires.size.1, (only_public c.args.builder.now c.in-Public.wire.shares (subst (IsValue n c.args.builder.now) c.in-Public.is c.requires.value), c.requires.size))

pub returns-in-Secret : goal.returns-in-Secret
returns-in-Secret g c =
    let n = g.row.S in
    rw c.in-Secret.is (makes_none n c.args.builder.now c.in-Secret.sharing.shares _ (subst (IsValue n c.args.builder.now) c.in-Secret.is c.requires.value) (λ cycles bits t lt. refl))
