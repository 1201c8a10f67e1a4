use Rattle.std.proofs.Common.{◌∙◌, ap₂, arith}
use Rattle.hpc2_gadget.proofs.Sizes.{array_fits}
use Rattle.pipeline_balance.specs.Signals.{selected}
use Rattle.pipeline_balance.proofs.Making.{still, all_fit_order}
use Rattle.pipeline_balance.proofs.Adding.{value_still}
use Rattle.pipeline_balance.proofs.Sizes.{value_fits}
use Rattle.pipeline_balance.proofs.Registering.{held_stays, goes_behind, goes_so}
use Rattle.pipeline_balance.proofs.registers.close_secret.Goals as goal

pub secret_of-requires-2 : goal.secret_of-requires-2
secret_of-requires-2 g c =
    let n = g.row.S in
    (value_fits n c.requires.size.1, (array_fits n c.requires.size.1, (c.requires.size, value_still n _ _ c.args.next.now c.in_ok-first.ensures.extends c.requires.next)))

pub close_shares-requires : goal.close_shares-requires
close_shares-requires g c =
    let n = g.row.S in
    let a = c.in_ok-first.ensures in
    let b = c.in_ok-late.ensures in (
      array_fits n c.requires.size.1,
      (
        b.extends.publics c.args.load (a.extends.publics c.args.load c.requires.load),
        (
          still n _ _ c.in_ok-first.first.shares b.extends a.shares,
          (
            held_stays n _ _ c.args.held.now.shares b.extends (held_stays n _ _ c.args.held.now.shares a.extends c.requires.held),
            (b.shares, c.requires.size),
          ),
        ),
      ),
    )

pub returns-clause-goes : goal.returns-clause-goes
returns-clause-goes g c =
    let n = g.row.S in
    goes_so _ _ _ _ (λ cycles bits f t lt. f.1.1 t lt ∙ ap₂ (λ x y. selected (bits t c.args.load) x y) (f.0 t (omega (arith, lt))) (f.1.0 t (omega (arith, lt))))
    (goes_behind _ _ _ n _ _ _ c.in_ok-first.ensures (goes_behind _ _ _ n _ _ _ c.in_ok-late.ensures (c.in_ok-close_shares.ensures.goes n (all_fit_order n c.requires.size.0))))

pub returns-clause-others : goal.returns-clause-others
returns-clause-others g c m z are apart =
    c.in_ok-close_shares.ensures.others m z (held_stays m _ _ z c.in_ok-late.ensures.extends (held_stays m _ _ z c.in_ok-first.ensures.extends are)) apart
