use Rattle.agm_net.specs.Formula.{xor}
use Rattle.std.proofs.Common.{◌∙◌, ap}
use Rattle.hpc2_gadget.proofs.Sizes.{array_fits}
use Rattle.pipeline_balance.specs.Shared.{shared}
use Rattle.pipeline_balance.proofs.Making.{by_call, behind, so, still, all_fit_order}
use Rattle.pipeline_balance.proofs.values.secret_sum.Goals as goal

pub xor-requires : goal.xor-requires
xor-requires g c =
    let n = g.row.S in
    let other = c.in_ok-other.ensures in
    (array_fits n c.requires.size.1, (still n _ _ c.args.x.now.shares other.extends c.requires.left, (other.shares, c.requires.size)))

pub returns-clause-made : goal.returns-clause-made
returns-clause-made g c =
    let n = g.row.S in
    let d = c.in_ok-sum.ensures in
    so n _ _ _ _ _ _ _ (λ cycles bits f t lt. f.1 t lt ∙ ap (xor (shared n bits c.args.x.now.shares t)) (f.0 t lt))
    (behind n n _ _ _ _ _ _ _ _ _ c.in_ok-other.ensures (by_call n _ _ _ _ (all_fit_order n c.requires.size.0) d.extends d.stays d.cells d.network d.shares d.value))
