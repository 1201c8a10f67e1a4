use Rattle.std.proofs.Common.{◌&&◌, ◌∙◌, ap}
use Rattle.agm_net.specs.Formula.{xor}
use Rattle.hpc2_gadget.proofs.Sizes.{array_fits}
use Rattle.pipeline_balance.specs.Shared.{shared}
use Rattle.pipeline_balance.proofs.Making.{by_call, behind, so, still}
use Rattle.pipeline_balance.proofs.registers.selection.Goals as goal

pub and_public-requires : goal.and_public-requires
and_public-requires g c =
    let n = g.row.S in
    let difference = c.in_ok-difference.ensures in
    (array_fits n c.requires.size.1, (difference.extends.publics c.args.load c.requires.load, (difference.shares, c.requires.size)))

pub xor-requires-2 : goal.xor-requires-2
xor-requires-2 g c =
    let n = g.row.S in
    let difference = c.in_ok-difference.ensures in
    let masked = c.in_ok-masked.ensures in
    (array_fits n c.requires.size.1, (still n _ _ c.args.late.now.shares masked.extends (still n _ _ c.args.late.now.shares difference.extends c.requires.late), (masked.shares, c.requires.size)))

pub returns : goal.returns
returns g c s few =
    let n = g.row.S in
    let a = c.in_ok-difference.ensures in
    let b = c.in_ok-masked.ensures in
    let d = c.in_ok-sum.ensures in
    so n _ _ _ _ _ _ _
    (λ cycles bits f t lt. f.1.1 t lt ∙ ap (xor (shared n bits c.args.late.now.shares t)) (f.1.0 t lt ∙ ap (λ x. bits t c.args.load && x) (f.0 t lt)))
    (behind n n _ _ _ _ _ _ _ _ _ (by_call n _ _ _ _ few a.extends a.stays a.cells a.network a.shares a.value)
    (behind n n _ _ _ _ _ _ _ _ _ (by_call n _ _ _ _ few b.extends b.stays b.cells b.network b.shares b.value) (by_call n _ _ _ _ few d.extends d.stays d.cells d.network d.shares d.value)))
