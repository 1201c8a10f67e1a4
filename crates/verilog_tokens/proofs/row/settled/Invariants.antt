use Rattle.std.proofs.Common.{◌≡◌, length}
use Rattle.verilog_tokens.specs.Row.{tokens_from}
use Rattle.verilog_tokens.proofs.row.settled.Given as goal

abbrev pub invariant-loop-behind : goal.invariant-loop-behind
invariant-loop-behind l = tokens_from l.begins l.rest ≡ tokens_from l.fn.begins l.bytes

abbrev pub decreases-loop-behind : goal.decreases-loop-behind
decreases-loop-behind l = length l.rest
