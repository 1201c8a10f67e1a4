use Rattle.std.proofs.Common.{map, sym, subst, subst₂, ◌∙◌, arith}
use Rattle.std.specs.List.{AllByRecursion}
use Rattle.agm_net.specs.declared.port.Way.TheVariants.{Output}
use Rattle.share_wiring.specs.Built.{MayBeGiven}
use Rattle.share_wiring.specs.Shape.{header_of}
use Rattle.share_wiring.specs.Wiring.{share}
use Rattle.pipeline_balance.specs.Apart.{Apart, IsHeader}
use Rattle.pipeline_balance.specs.Ports.{FitsBeside}
use Rattle.pipeline_balance.specs.Valued.{wires_of}
use Rattle.pipeline_balance.proofs.LeavingRows.{led_as, out_way}
use Rattle.pipeline_balance.proofs.Beside.{fits_beside}
use Rattle.pipeline_balance.proofs.EnteringInputs.{free_public}
use Rattle.pipeline_balance.proofs.LeavingValues.{publics_given, public_led}
use Rattle.pipeline_balance.proofs.leaving.public_out.Goals as goal

pub row_out-requires-clause-fit : goal.row_out-requires-clause-fit
row_out-requires-clause-fit g c =
    let p = c.args.port.now in
    let olds = map header_of c.args.builder.now.ports in
    let fit = c.requires.fit in
    subst (λ x. FitsBeside olds (record { name = x; way = Output; range = p.range })) (sym c.as_slice.ensures)
    (fits_beside olds (record { name = p.name; way = Output; range = p.range })
    (subst (λ w. AllByRecursion (λ g. Apart g (record { name = p.name; way = w; range = p.range })) olds) (out_way p.way c.requires.output) (fit.beside 0 (omega arith)))
    (subst (λ w. IsHeader (record { name = p.name; way = w; range = p.range })) (out_way p.way c.requires.output) (fit.headers 0 (omega arith))))

pub row_out-requires-clause-given : goal.row_out-requires-clause-given
row_out-requires-clause-given g c =
    let net = c.args.builder.now in
    subst₂ (λ x row. AllByRecursion (MayBeGiven net.wires x) row) (sym c.as_slice.ensures) (sym (c.as_slice-2.ensures ∙ c.in_ok-row.ensures))
    (publics_given g.row.S net c.args.port.now.name c.args.values.now c.requires.values c.requires.public)

pub returns : goal.returns
returns g c =
    let p = c.args.port.now in
    let values = c.args.values.now in
    let row = map (λ v. share (wires_of v) 0) values in
    public_led g.row.S c.args.place p values c.args.builder.now c.row_out.new.builder (free_public p.name c.requires.free) c.requires.public
    (led_as c.args.place c.as_slice.result.now p.name p c.as_slice-2.result.now row c.args.builder.now c.row_out.new.builder
    c.as_slice.ensures c.requires.output (c.as_slice-2.ensures ∙ c.in_ok-row.ensures) c.in_ok-row_out.ensures)
