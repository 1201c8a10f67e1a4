use Rattle.std.proofs.Common.{◌∙◌, ap, sym}
use Rattle.std.proofs.lemmas.Option.{slice_get_within, get_or_from_slice_get}
use Rattle.sim_text.specs.Text.{digit}
use Rattle.side_by_side.proofs.More.{items_more}
use Rattle.side_by_side.proofs.lines.push_row.Goals as goal

pub loop-k-preserved : goal.loop-k-preserved
loop-k-preserved c =
    let row = c.args.row.now in
    let k = c.loop-k.k in
    let x = c.get.result in
    items_more digit row k x c.args.text.now c.loop-k.text c.push.new.self c.digit_of.result (slice_get_within row k x c.get.ensures) c.loop-k.invariant
    (c.digit_of.ensures ∙ ap digit (sym (get_or_from_slice_get row k x x c.get.ensures))) c.in_ok-push.ensures.ok
