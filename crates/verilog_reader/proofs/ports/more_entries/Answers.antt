use Rattle.std.proofs.Common.{◌-◌, ◌+◌, [], false, length, refl, sym, ◌∙◌, arith}
use Rattle.std.proofs.lemmas.Result.{err_from_is_err_and}
use Rattle.verilog_tokens.specs.Row.{tokens_of}
use Rattle.verilog_tokens.proofs.TokenRow.{tokens_within}
use Rattle.verilog_reader.specs.Grammar.{Next, IsPortEntry}
use Rattle.verilog_reader.specs.Reading.{single, begins, next_at, more_at, entry_at}
use Rattle.verilog_reader.proofs.Ahead.{shrinks, solid_next, solid_entry}
use Rattle.verilog_reader.proofs.FoundLists.{right_next}
use Rattle.verilog_reader.proofs.FoundDesign.{right_entry}
use Rattle.verilog_reader.proofs.Many.{begun, no_front, go_on, stops_here, at_end, fails_here}
use Rattle.verilog_reader.proofs.ports.more_entries.Goals as goal

pub loop-init : goal.loop-init
loop-init c =
    begun single (begins 44) (next_at entry_at) (shrinks (Next IsPortEntry) (next_at entry_at) (solid_next IsPortEntry solid_entry) (right_next IsPortEntry entry_at right_entry)) refl [] c.new-entries.result (length c.args.bytes.now - 0) (tokens_of c.args.bytes.now) c.new-entries.ensures (omega (arith, tokens_within false c.args.bytes.now)) ∙ no_front (more_at entry_at (tokens_of c.args.bytes.now))

pub returns-then-not-begins : goal.returns-then-not-begins
returns-then-not-begins c = stops_here single (begins 44) (next_at entry_at) (length c.args.bytes.now - c.loop.counter) c.loop.entries (tokens_of c.loop.rest.now) (more_at entry_at (tokens_of c.args.bytes.now)) c.loop.invariant (sym c.begins.ensures ∙ c.if-not-begins.true)

pub returns-in_err-next : goal.returns-in_err-next
returns-in_err-next c =
    let p = err_from_is_err_and c.from_residual.result c.from_residual.ensures.1 in
    rw (p.1, p.2) (fails_here single (begins 44) (next_at entry_at) (length c.args.bytes.now - c.loop.counter) c.loop.entries (tokens_of c.loop.rest.now) (more_at entry_at (tokens_of c.args.bytes.now)) c.in_err-next.field-0.0 c.loop.invariant (omega arith) (sym c.begins.ensures ∙ c.if-not-begins.false) c.in_err-next.ensures)

pub loop-preserved : goal.loop-preserved
loop-preserved c =
    let new = c.in_ok-push.ensures.ok in
    go_on single (begins 44) (next_at entry_at) (length c.args.bytes.now - c.loop.counter) (length c.args.bytes.now - (c.loop.counter + 1)) c.loop.entries c.push.new.self (tokens_of c.loop.rest.now) (tokens_of c.in_ok-next.behind.now) c.in_ok-next.next (more_at entry_at (tokens_of c.args.bytes.now)) c.loop.invariant (omega arith) (sym c.begins.ensures ∙ c.if-not-begins.false) c.in_ok-next.ensures new (omega arith)

pub returns : goal.returns
returns c = at_end single (begins 44) (next_at entry_at) (length c.args.bytes.now - c.loop.counter) c.loop.entries (tokens_of c.loop.rest.now) (more_at entry_at (tokens_of c.args.bytes.now)) c.loop.invariant (omega arith)
