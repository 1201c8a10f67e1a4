use Rattle.std.proofs.Common.{◌≡◌, [], get_or, length, sym, ap, ◌∙◌, arith}
use Rattle.std.proofs.lemmas.Option.{slice_get-get_or, get_or_from_slice_get}
use Rattle.share_wiring.specs.Own.{upto}
use Rattle.pipeline_balance.specs.Ports.{row_of, secret_value, value_row}
use Rattle.pipeline_balance.proofs.Recombining.{secrets_told}
use Rattle.pipeline_balance.proofs.ports.shared_values.Goals as goal

pub returns-clause-told : goal.returns-clause-told
returns-clause-told g c bits t =
    let n = g.row.S in
    let rows = c.args.rows.now in
    let no = c.loop-j-test.false in
    let le = c.loop-j.auto.j-end in
    let each = c.requires.each in
    let some = c.requires.size.0 in
    let d = c.index-rows-0.result in
    let first : d ≡ row_of rows 0 = c.index-rows-0.is ∙ sym (get_or_from_slice_get rows 0 (get_or rows 0 d) [] (slice_get-get_or rows 0 d (omega (arith, each, some)))) in
    let width = c.len-j-end.ensures in
    let long : length d ≡ length (row_of rows 0) = ap length first in
    let whole : c.loop-j.j ≡ length (row_of rows 0) = omega (arith, no, le, width, long) in
    secrets_told n rows some c.requires.wide bits t
    ∙ ap (value_row n bits t) (sym (c.loop-j.invariant ∙ ap (λ k. upto k (secret_value n rows)) whole))
