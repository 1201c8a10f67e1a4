use Rattle.std.proofs.Common.{◌≡◌, drop}
use Rattle.module_rules.specs.Items.{declarations}
use Rattle.module_rules.specs.Rules.{first_clash, declared_after}
use Rattle.module_rules.specs.View.{scope_view}
use Rattle.module_rules.proofs.scope.declare_names.Given as goal

abbrev pub invariant-loop-name : goal.invariant-loop-name
invariant-loop-name l =
    (first_clash (scope_view l.scope) (declarations l.way l.range (drop l.name-index l.names)) ≡ first_clash (scope_view l.initial.scope) (declarations l.way l.range l.names))
    × (declared_after (scope_view l.scope) (declarations l.way l.range (drop l.name-index l.names)) ≡ declared_after (scope_view l.initial.scope) (declarations l.way l.range l.names))
