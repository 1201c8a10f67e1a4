use Rattle.std.proofs.Common.{◌≡◌, [], take, drop}
use Rattle.module_rules.specs.Rules.{first_repeated}
use Rattle.module_rules.proofs.names.first_repeated.Given as goal

abbrev pub invariant-loop-name : goal.invariant-loop-name
invariant-loop-name l = first_repeated l.table (drop l.name-index l.names) ≡ first_repeated [] l.names
