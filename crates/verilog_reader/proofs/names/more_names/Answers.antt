use Rattle.std.proofs.Common.{◌≡◌, ◌-◌, ◌+◌, ◌++◌, ◌∷◌, [], false, length, refl, sym, ap, ◌∙◌, arith}
use Rattle.std.proofs.lemmas.Result.{err_from_is_err_and}
use Rattle.verilog_tokens.specs.Row.{tokens_of}
use Rattle.verilog_tokens.proofs.TokenRow.{tokens_within}
use Rattle.verilog_reader.specs.Grammar.{Next, IsIdent}
use Rattle.verilog_reader.specs.Reading.{with_front, single, begins, next_at, more_at, ident_at}
use Rattle.verilog_reader.proofs.Ahead.{shrinks, solid_next, solid_ident}
use Rattle.verilog_reader.proofs.FoundLists.{right_next}
use Rattle.verilog_reader.proofs.OneToken.{ident_is}
use Rattle.verilog_reader.proofs.Many.{begun, go_on, stops_here, at_end, fails_here}
use Rattle.verilog_reader.proofs.names.more_names.Goals as goal

pub loop-init : goal.loop-init
loop-init c =
    let new : c.push.new.self ≡ c.args.first ∷ [] = c.in_ok-push.ensures.ok ∙ ap (λ w. w ++ c.args.first ∷ []) c.new-names.ensures in
    begun single (begins 44) (next_at ident_at) (shrinks (Next IsIdent) (next_at ident_at) (solid_next IsIdent solid_ident) (right_next IsIdent ident_at ident_is)) refl (c.args.first ∷ []) c.push.new.self (length c.args.bytes.now - 0) (tokens_of c.args.bytes.now) (new) (omega (arith, tokens_within false c.args.bytes.now))

pub returns-then-not-begins : goal.returns-then-not-begins
returns-then-not-begins c = stops_here single (begins 44) (next_at ident_at) (length c.args.bytes.now - c.loop.counter) c.loop.names (tokens_of c.loop.rest.now) (with_front (c.args.first ∷ []) (more_at ident_at (tokens_of c.args.bytes.now))) c.loop.invariant (sym c.begins.ensures ∙ c.if-not-begins.true)

pub returns-in_err-name : goal.returns-in_err-name
returns-in_err-name c =
    let p = err_from_is_err_and c.from_residual-in_err-name.result c.from_residual-in_err-name.ensures.1 in
    rw (p.1, p.2) (fails_here single (begins 44) (next_at ident_at) (length c.args.bytes.now - c.loop.counter) c.loop.names (tokens_of c.loop.rest.now) (with_front (c.args.first ∷ []) (more_at ident_at (tokens_of c.args.bytes.now))) c.in_err-name.field-0.0 c.loop.invariant (omega arith) (sym c.begins.ensures ∙ c.if-not-begins.false) c.in_err-name.ensures)

pub loop-preserved : goal.loop-preserved
loop-preserved c =
    let new : c.push-in-loop.new.self ≡ c.loop.names ++ c.in_ok-name.name.now ∷ [] = cc (c.in_ok-push-2.ensures.ok, c.in_ok-from_slice.ensures) in
    go_on single (begins 44) (next_at ident_at) (length c.args.bytes.now - c.loop.counter) (length c.args.bytes.now - (c.loop.counter + 1)) c.loop.names c.push-in-loop.new.self (tokens_of c.loop.rest.now) (tokens_of c.in_ok-name.behind.now) c.in_ok-name.name.now (with_front (c.args.first ∷ []) (more_at ident_at (tokens_of c.args.bytes.now))) c.loop.invariant (omega arith) (sym c.begins.ensures ∙ c.if-not-begins.false) c.in_ok-name.ensures new (omega arith)

pub returns : goal.returns
returns c = at_end single (begins 44) (next_at ident_at) (length c.args.bytes.now - c.loop.counter) c.loop.names (tokens_of c.loop.rest.now) (with_front (c.args.first ∷ []) (more_at ident_at (tokens_of c.args.bytes.now))) c.loop.invariant (omega arith)
