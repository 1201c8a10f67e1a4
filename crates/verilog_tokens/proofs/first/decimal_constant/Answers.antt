use Rattle.std.proofs.Common.{arith}
use Rattle.verilog_tokens.specs.Constants.{decimal_next}
use Rattle.verilog_tokens.proofs.Steps.{run_within}
use Rattle.verilog_tokens.proofs.first.decimal_constant.Goals as goal

pub split_at-requires : goal.split_at-requires
split_at-requires c = omega (arith, c.decimal-count.ensures.count, run_within decimal_next c.args.bytes.now 0)
