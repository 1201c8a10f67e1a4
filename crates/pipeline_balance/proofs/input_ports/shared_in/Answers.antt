use Rattle.std.proofs.Common.{◌-◌, length, map, sym, ap, subst, ◌∙◌, arith}
use Rattle.share_wiring.specs.Built.{IsSmallRange}
use Rattle.share_wiring.specs.Own.{upto}
use Rattle.share_wiring.specs.Recombine.{recombined_rows}
use Rattle.share_wiring.specs.Shape.{header_of}
use Rattle.pipeline_balance.specs.Ports.{AreEntered, input_header, row_of, secret_value}
use Rattle.pipeline_balance.proofs.Sizes.{value_fits}
use Rattle.pipeline_balance.proofs.EnteringPorts.{wide_alike, shared_enters}
use Rattle.pipeline_balance.proofs.EnteringSteps.{fit_at}
use Rattle.pipeline_balance.proofs.input_ports.shared_in.Goals as goal

pub ports_in-requires : goal.ports_in-requires
ports_in-requires g c =
    let names = c.args.names.now in
    record { fit = fit_at (map header_of c.args.builder.now.ports) (length names) (λ i. input_header c.args.range (row_of names i)) c.requires.fit }

pub shared_values-requires : goal.shared_values-requires
shared_values-requires g c =
    let n = g.row.S in
    let names = c.args.names.now in
    let range = c.args.range in
    let old = c.args.builder.now in
    let now = c.ports_in.new.builder in
    let each = c.requires.each in
    let some = c.requires.size.0 in
    let small : IsSmallRange range = (fit_at (map header_of old.ports) (length names) (λ i. input_header range (row_of names i)) c.requires.fit 0 (omega (arith, each, some))).small in
    let rows = c.in_ok-rows.rows in
    let entered : AreEntered range names old now n rows = subst (λ k. AreEntered range names old now k rows) each c.in_ok-rows.ensures in
    let same = c.as_slice.ensures in
    let count = entered.count in (
      value_fits n c.requires.size.1,
      (
        ap length same ∙ count,
        ((λ i lt. ap (λ rs. length (row_of rs i)) same ∙ (wide_alike n old now names range small rows some each entered i lt ∙ sym (ap (λ rs. length (row_of rs 0)) same))), (omega (arith, some), c.requires.size.1)),
      ),
    )

pub returns : goal.returns
returns g c =
    let n = g.row.S in
    let names = c.args.names.now in
    let range = c.args.range in
    let old = c.args.builder.now in
    let now = c.ports_in.new.builder in
    let each = c.requires.each in
    let some = c.requires.size.0 in
    let small : IsSmallRange range = (fit_at (map header_of old.ports) (length names) (λ i. input_header range (row_of names i)) c.requires.fit 0 (omega (arith, each, some))).small in
    let rows = c.in_ok-rows.rows in
    let entered : AreEntered range names old now n rows = subst (λ k. AreEntered range names old now k rows) each c.in_ok-rows.ensures in
    let same = c.as_slice.ensures in
    shared_enters n old now names range small rows some each entered c.in_ok-values.values c.requires.shares
    (c.in_ok-values.ensures.values ∙ ap (λ rs. upto (length (row_of rs 0)) (secret_value n rs)) same)
    (λ bit t. ap (λ rs. recombined_rows (n - 1) (λ i. map (bit t) (row_of rs i))) (sym same) ∙ c.in_ok-values.ensures.told bit t)
