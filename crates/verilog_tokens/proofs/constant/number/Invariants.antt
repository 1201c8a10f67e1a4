use Rattle.std.proofs.Common.{◌≡◌, take}
use Rattle.small_text.specs.Bytes.{number_of}
use Rattle.verilog_tokens.proofs.constant.number.Given as goal

abbrev pub invariant-loop-digit : goal.invariant-loop-digit
invariant-loop-digit l = l.number ≡ number_of (take l.digit-index l.digits)
