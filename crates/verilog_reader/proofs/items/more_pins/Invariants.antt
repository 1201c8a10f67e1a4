use Rattle.std.proofs.Common.{◌≡◌, ◌-◌, ◌∷◌, [], map}
use Rattle.verilog_tokens.specs.Row.{tokens_of}
use Rattle.verilog_reader.specs.Reading as spec
use Rattle.verilog_reader.specs.View.{pin_view}
use Rattle.verilog_reader.proofs.items.more_pins.Given as goal

abbrev pub invariant-loop : goal.invariant-loop
invariant-loop l = spec.with_front (map pin_view l.pins) (spec.many_in spec.single (spec.begins 44) (spec.next_at spec.pin_at) (l.end - l.counter) (tokens_of l.rest)) ≡ spec.with_front (pin_view l.fn.first ∷ []) (spec.more_at spec.pin_at (tokens_of l.bytes))
