use Rattle.std.proofs.Common.{◌≡◌, ◌++◌}
use Rattle.verilog_tokens.specs.Constants.{low_bits}
use Rattle.verilog_tokens.proofs.bits.push_low_bits.Given as goal

abbrev pub invariant-loop-k : goal.invariant-loop-k
invariant-loop-k l = l.bits ++ low_bits l.k l.number ≡ l.fn.bits ++ low_bits l.count l.number

abbrev pub decreases-loop-k : goal.decreases-loop-k
decreases-loop-k l = l.k
