use Rattle.std.proofs.Common.{◌≡◌, ◌-◌, ◌+◌, ◌++◌, ◌∷◌, [], false, length, refl, sym, ap, ◌∙◌, arith}
use Rattle.std.proofs.lemmas.Result.{err_from_is_err_and}
use Rattle.verilog_tokens.specs.Row.{tokens_of}
use Rattle.verilog_tokens.proofs.TokenRow.{tokens_within}
use Rattle.verilog_reader.specs.Grammar.{Next, IsAttribute}
use Rattle.verilog_reader.specs.Reading.{with_front, single, begins, next_at, more_at, attribute_at}
use Rattle.verilog_reader.proofs.Ahead.{shrinks, solid_next, solid_attribute}
use Rattle.verilog_reader.proofs.FoundLists.{right_next}
use Rattle.verilog_reader.proofs.FoundParts.{right_attribute}
use Rattle.verilog_reader.proofs.Many.{begun, go_on, stops_here, at_end, fails_here}
use Rattle.verilog_reader.proofs.attributes.more_attributes.Goals as goal

pub loop-init : goal.loop-init
loop-init c =
    let new : c.push.new.self ≡ c.args.first ∷ [] = c.in_ok-push.ensures.ok ∙ ap (λ w. w ++ c.args.first ∷ []) c.new-attributes.ensures in
    begun single (begins 44) (next_at attribute_at) (shrinks (Next IsAttribute) (next_at attribute_at) (solid_next IsAttribute solid_attribute) (right_next IsAttribute attribute_at right_attribute)) refl (c.args.first ∷ []) c.push.new.self (length c.args.bytes.now - 0) (tokens_of c.args.bytes.now) (new) (omega (arith, tokens_within false c.args.bytes.now))

pub returns-then-not-begins : goal.returns-then-not-begins
returns-then-not-begins c = stops_here single (begins 44) (next_at attribute_at) (length c.args.bytes.now - c.loop.counter) c.loop.attributes (tokens_of c.loop.rest.now) (with_front (c.args.first ∷ []) (more_at attribute_at (tokens_of c.args.bytes.now))) c.loop.invariant (sym c.begins.ensures ∙ c.if-not-begins.true)

pub returns-in_err-next : goal.returns-in_err-next
returns-in_err-next c =
    let p = err_from_is_err_and c.from_residual-in_err-next.result c.from_residual-in_err-next.ensures.1 in
    rw (p.1, p.2) (fails_here single (begins 44) (next_at attribute_at) (length c.args.bytes.now - c.loop.counter) c.loop.attributes (tokens_of c.loop.rest.now) (with_front (c.args.first ∷ []) (more_at attribute_at (tokens_of c.args.bytes.now))) c.in_err-next.field-0.0 c.loop.invariant (omega arith) (sym c.begins.ensures ∙ c.if-not-begins.false) c.in_err-next.ensures)

pub loop-preserved : goal.loop-preserved
loop-preserved c =
    let new = c.in_ok-push-2.ensures.ok in
    go_on single (begins 44) (next_at attribute_at) (length c.args.bytes.now - c.loop.counter) (length c.args.bytes.now - (c.loop.counter + 1)) c.loop.attributes c.push-in-loop.new.self (tokens_of c.loop.rest.now) (tokens_of c.in_ok-next.behind.now) c.in_ok-next.next (with_front (c.args.first ∷ []) (more_at attribute_at (tokens_of c.args.bytes.now))) c.loop.invariant (omega arith) (sym c.begins.ensures ∙ c.if-not-begins.false) c.in_ok-next.ensures new (omega arith)

pub returns : goal.returns
returns c = at_end single (begins 44) (next_at attribute_at) (length c.args.bytes.now - c.loop.counter) c.loop.attributes (tokens_of c.loop.rest.now) (with_front (c.args.first ∷ []) (more_at attribute_at (tokens_of c.args.bytes.now))) c.loop.invariant (omega arith)
