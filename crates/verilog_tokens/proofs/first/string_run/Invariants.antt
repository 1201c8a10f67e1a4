use Rattle.std.proofs.Common.{◌≡◌, ◌+◌, false, drop}
use Rattle.verilog_tokens.specs.First.{string_run}
use Rattle.verilog_tokens.proofs.first.string_run.Given as goal

abbrev pub invariant-loop-b : goal.invariant-loop-b
invariant-loop-b l = (l.count ≡ l.b-index) × (string_run l.bytes false ≡ l.b-index + string_run (drop l.b-index l.bytes) l.paired)
