use Rattle.std.proofs.Common.{◌≡◌, [], None, take, drop}
use Rattle.module_rules.specs.Rules.{first_repeated}
use Rattle.module_rules.proofs.names.table_of.Given as goal

abbrev pub invariant-loop-name : goal.invariant-loop-name
invariant-loop-name l = (first_repeated l.table (drop l.name-index l.names) ≡ None) × (l.table ≡ take l.name-index l.names)
