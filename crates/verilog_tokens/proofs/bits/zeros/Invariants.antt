use Rattle.std.proofs.Common.{◌≡◌, false, replicate}
use Rattle.verilog_tokens.proofs.bits.zeros.Given as goal

abbrev pub invariant-loop : goal.invariant-loop
invariant-loop l = l.bits ≡ replicate l.counter false
