use Rattle.std.proofs.Common.{◌≡◌, Some, None, sym, ◌∙◌}
use Rattle.verilog_reader.specs.View.{item_view}
use Rattle.module_rules.specs.Items.{ports_of}
use Rattle.module_rules.specs.Rules.{first_unknown}
use Rattle.module_rules.proofs.check.first_unlisted.Goals as goal
use Rattle.module_rules.proofs.Declares.{unlisted_here, unlisted_on}

pub returns-in-Some : goal.returns-in-Some
returns-in-Some c =
    let here : Some c.in-Some.name ≡ first_unknown c.args.table.now (ports_of (item_view c.item-item.result)) = sym c.in-Some.is ∙ c.in_ok-name.ensures in
    unlisted_here c.args.table.now c.args.items.now c.loop-item.item-index c.item-item.result c.in-Some.name _ c.item-item.is c.loop-item-test.true c.loop-item.invariant here

pub loop-item-preserved : goal.loop-item-preserved
loop-item-preserved c =
    let here : None ≡ first_unknown c.args.table.now (ports_of (item_view c.item-item.result)) = sym c.in-None.is ∙ c.in_ok-name.ensures in
    unlisted_on c.args.table.now c.args.items.now c.loop-item.item-index c.item-item.result _ c.item-item.is c.loop-item-test.true c.loop-item.invariant here
