use Rattle.std.proofs.Common.{sym, ◌∙◌}
use Rattle.verilog_tokens.proofs.Gaps.{gap_shorter}
use Rattle.verilog_tokens.proofs.TokenRow.{gap_tokens, gap_off, same_line}
use Rattle.verilog_tokens.proofs.row.settled.Goals as goal

pub loop-behind-smaller : goal.loop-behind-smaller
loop-behind-smaller c = gap_shorter c.loop-behind.begins c.loop-behind.rest.now c.in-Some.behind c.in-Some.tail.now (sym c.in-Some.ensures)

pub loop-behind-preserved : goal.loop-behind-preserved
loop-behind-preserved c = sym (gap_tokens c.loop-behind.begins c.loop-behind.rest.now c.in-Some.behind c.in-Some.tail.now (sym c.in-Some.ensures)) ∙ c.loop-behind.invariant

pub returns-clause-value : goal.returns-clause-value
returns-clause-value c = same_line c.loop-behind.begins c.loop-behind.rest.now (sym c.in_default.ensures) (gap_off c.loop-behind.begins c.loop-behind.rest.now (sym c.in_default.ensures)) ∙ c.loop-behind.invariant

pub returns-clause-settled : goal.returns-clause-settled
returns-clause-settled c = gap_off c.loop-behind.begins c.loop-behind.rest.now (sym c.in_default.ensures)
