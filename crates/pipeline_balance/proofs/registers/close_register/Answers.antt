use Rattle.std.proofs.Common.{subst, lit<, arith}
use Rattle.hpc2_gadget.proofs.Sizes.{array_fits}
use Rattle.pipeline_balance.specs.Valued.{IsValue}
use Rattle.pipeline_balance.specs.Registered.{IsHeld}
use Rattle.pipeline_balance.proofs.Making.{one_fits_order}
use Rattle.pipeline_balance.proofs.Sizes.{value_fits}
use Rattle.pipeline_balance.proofs.registers.close_register.Goals as goal

pub close_shares-requires : goal.close_shares-requires
close_shares-requires g c =
    let n = g.row.S in
    let net = c.args.builder.now in (
      lit< tt,
      (
        c.requires.load,
        (
          subst (IsValue n net) c.public_of-first.ensures c.requires.initial,
          (
            subst (IsHeld n net) c.in-Public.is c.requires.held,
            (
              subst (IsValue n net) c.public_of-late.ensures c.requires.next,
              (omega arith, omega arith),
            ),
          ),
        ),
      ),
    )

pub close_secret-requires : goal.close_secret-requires
close_secret-requires g c =
    let n = g.row.S in
    let net = c.args.builder.now in (
      value_fits n c.requires.size.1,
      (
        array_fits n c.requires.size.1,
        (
          c.requires.load,
          (
            c.requires.initial,
            (
              subst (IsHeld n net) c.in-Secret.is c.requires.held,
              (c.requires.next, c.requires.size),
            ),
          ),
        ),
      ),
    )

pub returns-in_ok-close_shares-in-Public-clause-goes : goal.returns-in_ok-close_shares-in-Public-clause-goes
returns-in_ok-close_shares-in-Public-clause-goes g c =
    rw (c.in-Public.is, c.public_of-first.ensures, c.public_of-late.ensures) (c.in_ok-close_shares-in-Public.ensures.goes g.row.S (one_fits_order g.row.S))
