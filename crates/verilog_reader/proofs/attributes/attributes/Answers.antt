use Rattle.std.proofs.Common.{◌-◌, ◌+◌, [], false, length, refl, sym, ◌∙◌, arith}
use Rattle.std.proofs.lemmas.Result.{err_from_is_err_and}
use Rattle.verilog_tokens.specs.Row.{tokens_of}
use Rattle.verilog_tokens.proofs.TokenRow.{tokens_within}
use Rattle.verilog_reader.specs.Grammar.{IsBlock}
use Rattle.verilog_reader.specs.Reading.{itself, begins_open, attributes_at, block_at}
use Rattle.verilog_reader.proofs.Ahead.{shrinks, solid_block}
use Rattle.verilog_reader.proofs.FoundParts.{right_block}
use Rattle.verilog_reader.proofs.Many.{begun, no_front, go_on, stops_here, at_end, fails_here}
use Rattle.verilog_reader.proofs.attributes.attributes.Goals as goal

pub loop-init : goal.loop-init
loop-init c =
    begun itself begins_open block_at (shrinks IsBlock block_at solid_block right_block) refl [] c.new-attributes.result (length c.args.bytes.now - 0) (tokens_of c.args.bytes.now) c.new-attributes.ensures (omega (arith, tokens_within false c.args.bytes.now)) ∙ no_front (attributes_at (tokens_of c.args.bytes.now))

pub returns-then-not-begins_open : goal.returns-then-not-begins_open
returns-then-not-begins_open c = stops_here itself begins_open block_at (length c.args.bytes.now - c.loop.counter) c.loop.attributes (tokens_of c.loop.rest.now) (attributes_at (tokens_of c.args.bytes.now)) c.loop.invariant (sym c.begins_open.ensures ∙ c.if-not-begins_open.true)

pub returns-in_err-block : goal.returns-in_err-block
returns-in_err-block c =
    let p = err_from_is_err_and c.from_residual.result c.from_residual.ensures.1 in
    rw (p.1, p.2) (fails_here itself begins_open block_at (length c.args.bytes.now - c.loop.counter) c.loop.attributes (tokens_of c.loop.rest.now) (attributes_at (tokens_of c.args.bytes.now)) c.in_err-block.field-0.0 c.loop.invariant (omega arith) (sym c.begins_open.ensures ∙ c.if-not-begins_open.false) c.in_err-block.ensures)

pub loop-preserved : goal.loop-preserved
loop-preserved c =
    let new = c.in_ok-attributes.ensures in
    go_on itself begins_open block_at (length c.args.bytes.now - c.loop.counter) (length c.args.bytes.now - (c.loop.counter + 1)) c.loop.attributes c.in_ok-attributes.attributes (tokens_of c.loop.rest.now) (tokens_of c.in_ok-block.behind.now) c.in_ok-block.block (attributes_at (tokens_of c.args.bytes.now)) c.loop.invariant (omega arith) (sym c.begins_open.ensures ∙ c.if-not-begins_open.false) c.in_ok-block.ensures new (omega arith)

pub returns : goal.returns
returns c = at_end itself begins_open block_at (length c.args.bytes.now - c.loop.counter) c.loop.attributes (tokens_of c.loop.rest.now) (attributes_at (tokens_of c.args.bytes.now)) c.loop.invariant (omega arith)
