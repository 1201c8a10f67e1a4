use Rattle.std.proofs.Common.{◌≡◌, drop}
use Rattle.module_rules.specs.Rules.{first_unknown}
use Rattle.module_rules.proofs.check.first_unknown.Given as goal

abbrev pub invariant-loop-name : goal.invariant-loop-name
invariant-loop-name l = first_unknown l.table (drop l.name-index l.names) ≡ first_unknown l.table l.names
