use Rattle.std.proofs.Common.{◌≡◌, ◌∷◌, ◌++◌, drop, map}
use Rattle.verilog_reader.specs.Grammar.{port_item, port_items}
use Rattle.verilog_reader.specs.View.{item_view}
use Rattle.verilog_reader.proofs.ports.declarations.Given as goal

abbrev pub invariant-loop-entry : goal.invariant-loop-entry
invariant-loop-entry l = map item_view l.items ++ port_items l.before (drop l.entry-index l.entries) ≡ port_item l.kind l.name ∷ port_items l.kind l.entries
