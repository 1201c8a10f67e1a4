use Rattle.std.proofs.Common.{◌≡◌, [], drop, map}
use Rattle.verilog_reader.specs.View.{item_view}
use Rattle.module_rules.specs.Items.{instances_in}
use Rattle.module_rules.specs.Rules.{first_taken}
use Rattle.module_rules.specs.View.{scope_view}
use Rattle.module_rules.proofs.scope.first_taken.Given as goal

abbrev pub invariant-loop-item : goal.invariant-loop-item
invariant-loop-item l = first_taken (scope_view l.scope) l.instances (instances_in (map item_view (drop l.item-index l.items))) ≡ first_taken (scope_view l.scope) [] (instances_in (map item_view l.items))
