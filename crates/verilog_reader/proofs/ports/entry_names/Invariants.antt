use Rattle.std.proofs.Common.{◌≡◌, ◌∷◌, take, map}
use Rattle.verilog_reader.specs.Grammar.{entry_name}
use Rattle.verilog_reader.proofs.ports.entry_names.Given as goal

abbrev pub invariant-loop-entry : goal.invariant-loop-entry
invariant-loop-entry l = l.names ≡ l.first ∷ map entry_name (take l.entry-index l.entries)
