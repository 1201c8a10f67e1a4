use Rattle.std.proofs.Common.{◌≡◌, ◌-◌, ◌+◌, ◌++◌, ◌∷◌, [], false, length, map, refl, sym, ap, ◌∙◌, arith}
use Rattle.std.proofs.lemmas.Result.{err_from_is_err_and}
use Rattle.std.proofs.lemmas.List.{map_push}
use Rattle.verilog_tokens.specs.Row.{tokens_of}
use Rattle.verilog_tokens.proofs.TokenRow.{tokens_within}
use Rattle.verilog_reader.specs.Grammar.{IsItem}
use Rattle.verilog_reader.specs.Reading.{with_front, single, goes_on, item_at, items_at}
use Rattle.verilog_reader.specs.View.{item_view}
use Rattle.verilog_reader.proofs.Ahead.{shrinks, solid_item}
use Rattle.verilog_reader.proofs.FoundItems.{right_item}
use Rattle.verilog_reader.proofs.Many.{begun, go_on, stops_here, at_end, fails_here}
use Rattle.verilog_reader.proofs.items.items.Goals as goal

pub loop-init : goal.loop-init
loop-init c =
    begun single goes_on item_at (shrinks IsItem item_at solid_item right_item) refl (map item_view c.args.front) (map item_view c.args.front) (length c.args.bytes.now - 0) (tokens_of c.args.bytes.now) refl (omega (arith, tokens_within false c.args.bytes.now))

pub returns-then-not-goes_on : goal.returns-then-not-goes_on
returns-then-not-goes_on c = stops_here single goes_on item_at (length c.args.bytes.now - c.loop.counter) (map item_view c.loop.items) (tokens_of c.loop.rest.now) (with_front (map item_view c.args.front) (items_at (tokens_of c.args.bytes.now))) c.loop.invariant (sym c.goes_on.ensures ∙ c.if-not-goes_on.true)

pub returns-in_err-next : goal.returns-in_err-next
returns-in_err-next c =
    let p = err_from_is_err_and c.from_residual.result c.from_residual.ensures.1 in
    rw (p.1, p.2) (fails_here single goes_on item_at (length c.args.bytes.now - c.loop.counter) (map item_view c.loop.items) (tokens_of c.loop.rest.now) (with_front (map item_view c.args.front) (items_at (tokens_of c.args.bytes.now))) c.in_err-next.field-0.0 c.loop.invariant (omega arith) (sym c.goes_on.ensures ∙ c.if-not-goes_on.false) c.in_err-next.ensures)

pub loop-preserved : goal.loop-preserved
loop-preserved c =
    let new : map item_view c.push.new.self ≡ map item_view c.loop.items ++ item_view c.in_ok-next.next ∷ [] = ap (map item_view) c.in_ok-push.ensures.ok ∙ map_push item_view c.loop.items c.in_ok-next.next in
    go_on single goes_on item_at (length c.args.bytes.now - c.loop.counter) (length c.args.bytes.now - (c.loop.counter + 1)) (map item_view c.loop.items) (map item_view c.push.new.self) (tokens_of c.loop.rest.now) (tokens_of c.in_ok-next.behind.now) (item_view c.in_ok-next.next) (with_front (map item_view c.args.front) (items_at (tokens_of c.args.bytes.now))) c.loop.invariant (omega arith) (sym c.goes_on.ensures ∙ c.if-not-goes_on.false) c.in_ok-next.ensures new (omega arith)

pub returns : goal.returns
returns c = at_end single goes_on item_at (length c.args.bytes.now - c.loop.counter) (map item_view c.loop.items) (tokens_of c.loop.rest.now) (with_front (map item_view c.args.front) (items_at (tokens_of c.args.bytes.now))) c.loop.invariant (omega arith)
