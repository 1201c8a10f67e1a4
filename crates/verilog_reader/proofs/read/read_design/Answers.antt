use Rattle.verilog_reader.proofs.OneDesign.{read_spelled, none_spelled}
use Rattle.std.proofs.Common.{arith}
use Rattle.verilog_tokens.specs.Row.{tokens_of}
use Rattle.verilog_reader.specs.View.{design_view}
use Rattle.verilog_reader.proofs.read.read_design.Goals as goal

pub returns-in-Ok : goal.returns-in-Ok
returns-in-Ok c = read_spelled c.args.bytes.now (tokens_of c.within_line.result.now) (design_view c.in-Ok.design) c.within_line.ensures c.in-Ok.ensures

pub returns-in-Err-Wrong : goal.returns-in-Err-Wrong
returns-in-Err-Wrong c = (none_spelled c.args.bytes.now (tokens_of c.within_line.result.now) c.within_line.ensures (rw c.in-Err-Wrong.field-0-is at c.in-Err-Wrong.ensures), omega (arith, c.saturating_sub.ensures))
