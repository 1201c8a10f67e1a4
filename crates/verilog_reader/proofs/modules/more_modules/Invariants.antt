use Rattle.std.proofs.Common.{◌≡◌, ◌-◌, ◌∷◌, [], map}
use Rattle.verilog_tokens.specs.Row.{tokens_of}
use Rattle.verilog_reader.specs.Reading as spec
use Rattle.verilog_reader.specs.View.{module_view}
use Rattle.verilog_reader.proofs.modules.more_modules.Given as goal

abbrev pub invariant-loop : goal.invariant-loop
invariant-loop l = spec.with_front (map module_view l.modules) (spec.many_in spec.single spec.is_more spec.module_at (l.end - l.counter) (tokens_of l.rest)) ≡ spec.with_front (module_view l.fn.first ∷ []) (spec.many_at spec.single spec.is_more spec.module_at (tokens_of l.bytes))
