use Rattle.std.proofs.Common.{◌≡◌, ◌+◌, take, drop}
use Rattle.verilog_tokens.specs.Constants.{decimal_run, decimal_of}
use Rattle.verilog_tokens.proofs.constant.decimal.Given as goal

abbrev pub invariant-loop-b : goal.invariant-loop-b
invariant-loop-b l = (l.count ≡ l.b-index) × (decimal_run l.bytes 0 ≡ l.b-index + decimal_run (drop l.b-index l.bytes) l.value) × (l.value ≡ decimal_of (take l.b-index l.bytes))
