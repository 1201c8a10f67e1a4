use Rattle.std.proofs.Common.{◌≡◌, ◌-◌, ◌∷◌, []}
use Rattle.verilog_tokens.specs.Row.{tokens_of}
use Rattle.verilog_reader.specs.Reading as spec
use Rattle.verilog_reader.proofs.attributes.more_attributes.Given as goal

abbrev pub invariant-loop : goal.invariant-loop
invariant-loop l = spec.with_front l.attributes (spec.many_in spec.single (spec.begins 44) (spec.next_at spec.attribute_at) (l.end - l.counter) (tokens_of l.rest)) ≡ spec.with_front (l.fn.first ∷ []) (spec.more_at spec.attribute_at (tokens_of l.bytes))
