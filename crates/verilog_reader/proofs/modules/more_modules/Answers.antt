use Rattle.std.proofs.Common.{◌≡◌, ◌-◌, ◌+◌, ◌++◌, ◌∷◌, [], false, length, map, refl, sym, ap, ◌∙◌, arith}
use Rattle.std.proofs.lemmas.Result.{err_from_is_err_and}
use Rattle.std.proofs.lemmas.List.{map_push}
use Rattle.verilog_tokens.specs.Row.{tokens_of}
use Rattle.verilog_tokens.proofs.TokenRow.{tokens_within}
use Rattle.verilog_reader.specs.Grammar.{IsModule}
use Rattle.verilog_reader.specs.Reading.{with_front, single, is_more, many_at, module_at}
use Rattle.verilog_reader.specs.View.{module_view}
use Rattle.verilog_reader.proofs.Ahead.{shrinks, solid_module}
use Rattle.verilog_reader.proofs.FoundDesign.{right_module}
use Rattle.verilog_reader.proofs.Many.{begun, go_on, stops_here, at_end, fails_here}
use Rattle.verilog_reader.proofs.modules.more_modules.Goals as goal

pub loop-init : goal.loop-init
loop-init c =
    let new : c.push.new.self ≡ c.args.first ∷ [] = c.in_ok-push.ensures.ok ∙ ap (λ w. w ++ c.args.first ∷ []) c.new-modules.ensures in
    begun single is_more module_at (shrinks IsModule module_at solid_module right_module) refl (module_view c.args.first ∷ []) (map module_view c.push.new.self) (length c.args.bytes.now - 0) (tokens_of c.args.bytes.now) (ap (map module_view) new) (omega (arith, tokens_within false c.args.bytes.now))

pub returns-then-not-is_more : goal.returns-then-not-is_more
returns-then-not-is_more c = stops_here single is_more module_at (length c.args.bytes.now - c.loop.counter) (map module_view c.loop.modules) (tokens_of c.loop.rest.now) (with_front (module_view c.args.first ∷ []) (many_at single is_more module_at (tokens_of c.args.bytes.now))) c.loop.invariant (sym c.is_more.ensures ∙ c.if-not-is_more.true)

pub returns-in_err-next : goal.returns-in_err-next
returns-in_err-next c =
    let p = err_from_is_err_and c.from_residual-in_err-next.result c.from_residual-in_err-next.ensures.1 in
    rw (p.1, p.2) (fails_here single is_more module_at (length c.args.bytes.now - c.loop.counter) (map module_view c.loop.modules) (tokens_of c.loop.rest.now) (with_front (module_view c.args.first ∷ []) (many_at single is_more module_at (tokens_of c.args.bytes.now))) c.in_err-next.field-0.0 c.loop.invariant (omega arith) (sym c.is_more.ensures ∙ c.if-not-is_more.false) c.in_err-next.ensures)

pub loop-preserved : goal.loop-preserved
loop-preserved c =
    let new : map module_view c.push-in-loop.new.self ≡ map module_view c.loop.modules ++ module_view c.in_ok-next.next ∷ [] = ap (map module_view) c.in_ok-push-2.ensures.ok ∙ map_push module_view c.loop.modules c.in_ok-next.next in
    go_on single is_more module_at (length c.args.bytes.now - c.loop.counter) (length c.args.bytes.now - (c.loop.counter + 1)) (map module_view c.loop.modules) (map module_view c.push-in-loop.new.self) (tokens_of c.loop.rest.now) (tokens_of c.in_ok-next.behind.now) (module_view c.in_ok-next.next) (with_front (module_view c.args.first ∷ []) (many_at single is_more module_at (tokens_of c.args.bytes.now))) c.loop.invariant (omega arith) (sym c.is_more.ensures ∙ c.if-not-is_more.false) c.in_ok-next.ensures new (omega arith)

pub returns : goal.returns
returns c = at_end single is_more module_at (length c.args.bytes.now - c.loop.counter) (map module_view c.loop.modules) (tokens_of c.loop.rest.now) (with_front (module_view c.args.first ∷ []) (many_at single is_more module_at (tokens_of c.args.bytes.now))) c.loop.invariant (omega arith)
