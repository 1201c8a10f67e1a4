use Rattle.std.proofs.Common.{◌≡◌, ◌++◌, List, map, get_or, sym, ap, ◌∙◌}
use Rattle.std.proofs.lemmas.List.{append-nil, take_all}
use Rattle.side_by_side.specs.Pairs.{bit_in, rows_in, pair_by}
use Rattle.side_by_side.specs.declared.watched.Watched.{Watched}
use Rattle.side_by_side.proofs.More.{items_more, item_of, item_at}
use Rattle.side_by_side.proofs.plain_run.push_step.Goals as goal

pub loop-k-init : goal.loop-k-init
loop-k-init c = λ other same. sym (append-nil c.args.pairs.now)

pub loop-k-preserved : goal.loop-k-preserved
loop-k-preserved c = λ other same. (
    let watched = c.args.watched.now in
    let k = c.loop-k.k in
    let port = c.index-watched-k.result in
    let test = c.loop-k-test.true in
    let at : get_or watched k port ≡ port = item_at watched k port port test c.index-watched-k.is in
    let shares : c.as_slice.result.now ≡ rows_in (bit_in other) port.shares =
    c.as_slice.ensures
    ∙ (item_of (λ (w : Watched). rows_in (bit_in other) w.shares) watched c.args.seen.now k port c.index-seen-k.result same test c.index-seen-k.is ∙ ap (λ (w : Watched). rows_in (bit_in other) w.shares) at) in
    let f = pair_by c.args.stream c.args.step (bit_in c.args.row.now) (bit_in other) in
    items_more f watched k port c.args.pairs.now c.loop-k.pairs c.push.new.self c.in_ok-pair.field-0 test (c.loop-k.invariant other same) (c.in_ok-pair.ensures (bit_in other) shares ∙ ap f (sym at))
    c.in_ok-push.ensures.ok)

pub returns : goal.returns
returns c = λ other same. (
    c.loop-k.invariant other same
    ∙ ap (λ (ws : List Watched). c.args.pairs.now ++ map (pair_by c.args.stream c.args.step (bit_in c.args.row.now) (bit_in other)) ws) (take_all c.loop-k.k c.args.watched.now c.loop-k-test.false))
