use Rattle.std.proofs.Common.{◌≡◌, ◌-◌, ◌+◌, ◌++◌, ◌∷◌, [], false, length, map, refl, sym, ap, ◌∙◌, arith}
use Rattle.std.proofs.lemmas.Result.{err_from_is_err_and}
use Rattle.std.proofs.lemmas.List.{map_push}
use Rattle.verilog_tokens.specs.Row.{tokens_of}
use Rattle.verilog_tokens.proofs.TokenRow.{tokens_within}
use Rattle.verilog_reader.specs.Grammar.{Next, IsPin}
use Rattle.verilog_reader.specs.Reading.{with_front, single, begins, next_at, more_at, pin_at}
use Rattle.verilog_reader.specs.View.{pin_view}
use Rattle.verilog_reader.proofs.Ahead.{shrinks, solid_next, solid_pin}
use Rattle.verilog_reader.proofs.FoundLists.{right_next}
use Rattle.verilog_reader.proofs.FoundItems.{right_pin}
use Rattle.verilog_reader.proofs.Many.{begun, go_on, stops_here, at_end, fails_here}
use Rattle.verilog_reader.proofs.items.more_pins.Goals as goal

pub loop-init : goal.loop-init
loop-init c =
    let new : c.push.new.self ≡ c.args.first ∷ [] = c.in_ok-push.ensures.ok ∙ ap (λ w. w ++ c.args.first ∷ []) c.new-pins.ensures in
    begun single (begins 44) (next_at pin_at) (shrinks (Next IsPin) (next_at pin_at) (solid_next IsPin solid_pin) (right_next IsPin pin_at right_pin)) refl (pin_view c.args.first ∷ []) (map pin_view c.push.new.self) (length c.args.bytes.now - 0) (tokens_of c.args.bytes.now) (ap (map pin_view) new) (omega (arith, tokens_within false c.args.bytes.now))

pub returns-then-not-begins : goal.returns-then-not-begins
returns-then-not-begins c = stops_here single (begins 44) (next_at pin_at) (length c.args.bytes.now - c.loop.counter) (map pin_view c.loop.pins) (tokens_of c.loop.rest.now) (with_front (pin_view c.args.first ∷ []) (more_at pin_at (tokens_of c.args.bytes.now))) c.loop.invariant (sym c.begins.ensures ∙ c.if-not-begins.true)

pub returns-in_err-next : goal.returns-in_err-next
returns-in_err-next c =
    let p = err_from_is_err_and c.from_residual-in_err-next.result c.from_residual-in_err-next.ensures.1 in
    rw (p.1, p.2) (fails_here single (begins 44) (next_at pin_at) (length c.args.bytes.now - c.loop.counter) (map pin_view c.loop.pins) (tokens_of c.loop.rest.now) (with_front (pin_view c.args.first ∷ []) (more_at pin_at (tokens_of c.args.bytes.now))) c.in_err-next.field-0.0 c.loop.invariant (omega arith) (sym c.begins.ensures ∙ c.if-not-begins.false) c.in_err-next.ensures)

pub loop-preserved : goal.loop-preserved
loop-preserved c =
    let new : map pin_view c.push-in-loop.new.self ≡ map pin_view c.loop.pins ++ pin_view c.in_ok-next.next ∷ [] = ap (map pin_view) c.in_ok-push-2.ensures.ok ∙ map_push pin_view c.loop.pins c.in_ok-next.next in
    go_on single (begins 44) (next_at pin_at) (length c.args.bytes.now - c.loop.counter) (length c.args.bytes.now - (c.loop.counter + 1)) (map pin_view c.loop.pins) (map pin_view c.push-in-loop.new.self) (tokens_of c.loop.rest.now) (tokens_of c.in_ok-next.behind.now) (pin_view c.in_ok-next.next) (with_front (pin_view c.args.first ∷ []) (more_at pin_at (tokens_of c.args.bytes.now))) c.loop.invariant (omega arith) (sym c.begins.ensures ∙ c.if-not-begins.false) c.in_ok-next.ensures new (omega arith)

pub returns : goal.returns
returns c = at_end single (begins 44) (next_at pin_at) (length c.args.bytes.now - c.loop.counter) (map pin_view c.loop.pins) (tokens_of c.loop.rest.now) (with_front (pin_view c.args.first ∷ []) (more_at pin_at (tokens_of c.args.bytes.now))) c.loop.invariant (omega arith)
