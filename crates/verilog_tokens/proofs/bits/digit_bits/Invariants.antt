use Rattle.std.proofs.Common.{◌≡◌, take}
use Rattle.verilog_tokens.specs.Constants.{digit_bits}
use Rattle.verilog_tokens.proofs.bits.digit_bits.Given as goal

abbrev pub invariant-loop-digit : goal.invariant-loop-digit
invariant-loop-digit l = l.bits ≡ digit_bits l.width (take l.digit-index l.digits)
