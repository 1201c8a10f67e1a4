use Rattle.std.proofs.Common.{◌≡◌, ◌-◌}
use Rattle.verilog_tokens.specs.Row.{tokens_of}
use Rattle.verilog_reader.specs.Reading as spec
use Rattle.verilog_reader.proofs.ports.more_entries.Given as goal

abbrev pub invariant-loop : goal.invariant-loop
invariant-loop l = spec.with_front l.entries (spec.many_in spec.single (spec.begins 44) (spec.next_at spec.entry_at) (l.end - l.counter) (tokens_of l.rest)) ≡ spec.more_at spec.entry_at (tokens_of l.bytes)
