use Rattle.std.proofs.Common.{false, arith}
use Rattle.verilog_tokens.specs.First.{string_step}
use Rattle.verilog_tokens.proofs.Steps.{run_within}
use Rattle.verilog_tokens.proofs.first.string.Goals as goal

pub split_at-requires : goal.split_at-requires
split_at-requires c = omega (arith, c.string_run.ensures, run_within string_step c.args.bytes.now false)
