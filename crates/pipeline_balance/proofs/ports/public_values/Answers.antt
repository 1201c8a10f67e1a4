use Rattle.std.proofs.Common.{◌≡◌, length, map, take, sym, ap, ◌∙◌, arith}
use Rattle.std.proofs.Math.Seq.{take-length}
use Rattle.pipeline_balance.specs.Ports.{public_value, value_row}
use Rattle.pipeline_balance.proofs.Recombining.{publics_told}
use Rattle.pipeline_balance.proofs.ports.public_values.Goals as goal

pub returns-clause-told : goal.returns-clause-told
returns-clause-told g c bits t =
    let wires = c.args.wires.now in
    let no = c.loop-j-test.false in
    let le = c.loop-j.auto.j-end in
    let whole : c.loop-j.j ≡ length wires = omega (arith, no, le) in
    publics_told g.row.S wires bits t
    ∙ ap (value_row g.row.S bits t) (sym (c.loop-j.invariant ∙ ap (λ ws. map public_value ws) (ap (λ k. take k wires) whole ∙ take-length wires)))
