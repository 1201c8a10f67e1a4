use Rattle.std.proofs.Common.{◌≡◌, Some, None, sym, ◌∙◌}
use Rattle.verilog_reader.specs.View.{item_view}
use Rattle.module_rules.specs.Items.{declared_by}
use Rattle.module_rules.specs.Rules.{first_clash, declared_after}
use Rattle.module_rules.specs.View.{scope_view}
use Rattle.module_rules.proofs.scope.declare_items.Goals as goal
use Rattle.module_rules.proofs.Declares.{clash_here, clash_on, declared_on, some_is_none}

pub returns-in-Some : goal.returns-in-Some
returns-in-Some c =
    let here : Some c.in-Some.clash ≡ first_clash (scope_view c.loop-item.scope) (declared_by (item_view c.item-item.result)) = sym c.in-Some.is ∙ c.in_ok-clash.ensures.0 in (
      clash_here (scope_view c.loop-item.scope) c.args.items.now c.loop-item.item-index c.item-item.result c.in-Some.clash _ c.item-item.is c.loop-item-test.true c.loop-item.invariant.0 here,
      λ no. absurd (some_is_none c.in-Some.clash no),
    )

pub loop-item-preserved : goal.loop-item-preserved
loop-item-preserved c =
    let here : None ≡ first_clash (scope_view c.loop-item.scope) (declared_by (item_view c.item-item.result)) = sym c.in-None.is ∙ c.in_ok-clash.ensures.0 in
    let now : scope_view c.declare_item.new.scope ≡ declared_after (scope_view c.loop-item.scope) (declared_by (item_view c.item-item.result)) = c.in_ok-clash.ensures.1 c.in-None.is in (
      clash_on (scope_view c.loop-item.scope) (scope_view c.declare_item.new.scope) c.args.items.now c.loop-item.item-index c.item-item.result _ c.item-item.is c.loop-item-test.true c.loop-item.invariant.0 here now,
      declared_on (scope_view c.loop-item.scope) (scope_view c.declare_item.new.scope) c.args.items.now c.loop-item.item-index c.item-item.result _ c.item-item.is c.loop-item-test.true c.loop-item.invariant.1 now,
    )
