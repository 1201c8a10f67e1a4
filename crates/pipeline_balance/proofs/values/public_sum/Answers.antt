use Rattle.agm_net.specs.Formula.{xor}
use Rattle.std.proofs.Common.{◌∙◌, subst, ap, lit<, arith}
use Rattle.hpc2_gadget.proofs.Sizes.{array_fits}
use Rattle.pipeline_balance.specs.Shared.{shared}
use Rattle.pipeline_balance.specs.Valued.{IsValue}
use Rattle.pipeline_balance.proofs.Making.{by_call, behind, so, still, all_fit_order}
use Rattle.pipeline_balance.proofs.values.public_sum.Goals as goal

pub xor-requires : goal.xor-requires
xor-requires g c =
    let n = g.row.S in
    (lit< tt, (c.requires.left, ((subst (IsValue n c.args.builder.now) c.in-Public.is c.requires.right), (omega arith, omega arith))))

pub xor-requires-in-Secret : goal.xor-requires-in-Secret
xor-requires-in-Secret g c =
    let n = g.row.S in
    let spread = c.in_ok-spread-in-Secret.ensures in
    (array_fits n c.requires.size.1, (spread.shares, (still n _ _ c.in-Secret.sharing.shares spread.extends (subst (IsValue n c.args.builder.now) c.in-Secret.is c.requires.right), c.requires.size)))

pub returns-in_ok-sum-in-Secret-clause-made : goal.returns-in_ok-sum-in-Secret-clause-made
returns-in_ok-sum-in-Secret-clause-made g c =
    let n = g.row.S in
    let a = c.in_ok-spread-in-Secret.ensures in
    let d = c.in_ok-sum-in-Secret.ensures in
    rw c.in-Secret.is
    (so n _ _ _ _ _ _ _ (λ cycles bits f t lt. f.1 t lt ∙ ap (λ b. xor b (shared n bits c.in-Secret.sharing.shares t)) (f.0 t lt))
    (behind n n _ _ _ _ _ _ _ _ _ (by_call n _ _ _ _ (all_fit_order n c.requires.size.0) a.extends a.stays a.cells a.network a.shares a.value) (by_call n _ _ _ _ (all_fit_order n c.requires.size.0) d.extends d.stays d.cells d.network d.shares d.value)))
