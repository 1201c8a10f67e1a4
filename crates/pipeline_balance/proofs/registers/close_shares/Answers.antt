use Rattle.std.proofs.Common.{◌+◌, ◌-◌, ◌∙◌, arith}
use Rattle.share_wiring.specs.Wiring.{share}
use Rattle.hpc2_gadget.proofs.Sizes.{array_fits}
use Rattle.pipeline_balance.proofs.Making.{all_fit_order}
use Rattle.pipeline_balance.proofs.Bridges.{xor_same}
use Rattle.pipeline_balance.proofs.Registering.{held_stays, closing_goes, closing_others}
use Rattle.pipeline_balance.proofs.registers.close_shares.Goals as goal

pub close-requires : goal.close-requires
close-requires g c =
    let n = g.row.S in
    let chosen = c.in_ok-chosen.ensures n (all_fit_order n c.requires.size.0) in
    (array_fits n c.requires.size.1, ((held_stays n _ _ c.args.held.now.shares chosen.extends c.requires.held).held, chosen.shares))

pub returns-clause-goes : goal.returns-clause-goes
returns-clause-goes g c s few =
    let n = g.row.S in
    let chosen = c.in_ok-chosen.ensures s few in
    let still_open = held_stays n _ _ c.args.held.now.shares chosen.extends c.requires.held in
    closing_goes n c.args.builder.now _ _ c.args.held.now.shares c.in_ok-chosen.chosen.shares chosen.extends c.close.ensures.made _ chosen.ports chosen.begun chosen.given chosen.sound (c.close.ensures.network (s - 1) few c.requires.size.1 still_open.named)
    (λ cycles bits run. (
    let last = c.close.ensures.value cycles bits run in
    let before = chosen.value cycles bits last.0 in
    (before.0, λ t lt. xor_same n (λ i. bits (t + 1) (share c.args.held.now.shares i)) (λ i. bits t (share c.in_ok-chosen.chosen.shares i)) (λ i li. last.1 t lt i li) ∙ before.1 t (omega (arith, lt)))))

pub returns-clause-others : goal.returns-clause-others
returns-clause-others g c =
    closing_others g.row.S c.args.builder.now _ _ c.args.held.now.shares c.in_ok-chosen.chosen.shares (c.in_ok-chosen.ensures g.row.S (all_fit_order g.row.S c.requires.size.0)).extends c.close.ensures.made
