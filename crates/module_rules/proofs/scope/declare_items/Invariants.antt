use Rattle.std.proofs.Common.{◌≡◌, drop, map}
use Rattle.verilog_reader.specs.View.{item_view}
use Rattle.module_rules.specs.Items.{declared_in}
use Rattle.module_rules.specs.Rules.{first_clash, declared_after}
use Rattle.module_rules.specs.View.{scope_view}
use Rattle.module_rules.proofs.scope.declare_items.Given as goal

abbrev pub invariant-loop-item : goal.invariant-loop-item
invariant-loop-item l =
    (first_clash (scope_view l.scope) (declared_in (map item_view (drop l.item-index l.items))) ≡ first_clash (scope_view l.initial.scope) (declared_in (map item_view l.items)))
    × (declared_after (scope_view l.scope) (declared_in (map item_view (drop l.item-index l.items))) ≡ declared_after (scope_view l.initial.scope) (declared_in (map item_view l.items)))
