use Rattle.std.proofs.Common.{◌≡◌, ◌-◌, map}
use Rattle.verilog_tokens.specs.Row.{tokens_of}
use Rattle.verilog_reader.specs.Reading as spec
use Rattle.verilog_reader.specs.View.{item_view}
use Rattle.verilog_reader.proofs.items.items.Given as goal

abbrev pub invariant-loop : goal.invariant-loop
invariant-loop l = spec.with_front (map item_view l.items) (spec.many_in spec.single spec.goes_on spec.item_at (l.end - l.counter) (tokens_of l.rest)) ≡ spec.with_front (map item_view l.fn.front) (spec.items_at (tokens_of l.bytes))
