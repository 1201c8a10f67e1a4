use Rattle.std.proofs.Common.{lit<, arith}
use Rattle.hpc2_gadget.proofs.Sizes.{array_fits}
use Rattle.pipeline_balance.proofs.Making.{by_call, one_fits_order, all_fit_order}
use Rattle.pipeline_balance.proofs.Registering.{step_is_fresh}
use Rattle.pipeline_balance.proofs.registers.held_like.Goals as goal

pub hold-requires : goal.hold-requires
hold-requires g c = (lit< tt, (omega arith, omega arith))

pub hold-requires-in-Secret : goal.hold-requires-in-Secret
hold-requires-in-Secret g c = (array_fits g.row.S c.requires.size.1, c.requires.size)

pub returns-in_ok-wire-in-Public-clause-made : goal.returns-in_ok-wire-in-Public-clause-made
returns-in_ok-wire-in-Public-clause-made g c =
    let d = c.in_ok-wire-in-Public.ensures in
    by_call 1 _ _ _ _ (one_fits_order g.row.S) d.extends d.stays d.cells d.network d.shares d.value

pub returns-in_ok-wire-in-Public-clause-fresh : goal.returns-in_ok-wire-in-Public-clause-fresh
returns-in_ok-wire-in-Public-clause-fresh g c = step_is_fresh _ 1 _ _ _ _ c.in_ok-wire-in-Public.wire.shares c.in_ok-wire-in-Public.ensures.made

pub returns-in_ok-sharing-in-Secret-clause-made : goal.returns-in_ok-sharing-in-Secret-clause-made
returns-in_ok-sharing-in-Secret-clause-made g c =
    let d = c.in_ok-sharing-in-Secret.ensures in
    by_call g.row.S _ _ _ _ (all_fit_order g.row.S c.requires.size.0) d.extends d.stays d.cells d.network d.shares d.value

pub returns-in_ok-sharing-in-Secret-clause-fresh : goal.returns-in_ok-sharing-in-Secret-clause-fresh
returns-in_ok-sharing-in-Secret-clause-fresh g c = step_is_fresh _ g.row.S _ _ _ _ c.in_ok-sharing-in-Secret.sharing.shares c.in_ok-sharing-in-Secret.ensures.made
