use Rattle.std.proofs.Common.{map, sym, ap, subst₂, ◌∙◌, arith}
use Rattle.std.specs.List.{AllByRecursion}
use Rattle.agm_net.specs.Role.{share_name}
use Rattle.share_wiring.specs.Built.{MayBeGiven}
use Rattle.share_wiring.specs.Wiring.{share}
use Rattle.pipeline_balance.proofs.LeavingRows.{led_as}
use Rattle.pipeline_balance.proofs.LeavingValues.{shares_given, of_share}
use Rattle.pipeline_balance.proofs.leaving.share_out.Goals as goal

pub row_out-requires-clause-given : goal.row_out-requires-clause-given
row_out-requires-clause-given g c =
    let n = g.row.S in
    let p = c.args.port.now in
    let i = c.args.index in
    let small = c.requires.size.1 in
    let below = c.requires.index in
    let net = c.args.builder.now in
    subst₂ (λ x row. AllByRecursion (MayBeGiven net.wires x) row)
    (sym (c.as_slice-2.ensures ∙ (c.in_ok-name.ensures ∙ ap (share_name i) c.as_slice.ensures)))
    (sym (c.as_slice-3.ensures ∙ c.in_ok-row.ensures))
    (shares_given n i net (share_name i p.name) c.args.sharings.now below (of_share i p.name (omega (arith, small, below)) c.requires.written.0) c.requires.sharings)

pub returns : goal.returns
returns g c =
    led_as c.args.place c.as_slice-2.result.now (share_name c.args.index c.args.port.now.name) c.args.port.now c.as_slice-3.result.now (map (λ z. share z.shares c.args.index) c.args.sharings.now)
    c.args.builder.now c.row_out.new.builder
    (c.as_slice-2.ensures ∙ (c.in_ok-name.ensures ∙ ap (share_name c.args.index) c.as_slice.ensures)) c.requires.output (c.as_slice-3.ensures ∙ c.in_ok-row.ensures) c.in_ok-row_out.ensures
