use Rattle.std.proofs.Common.{◌≡◌, drop, map}
use Rattle.verilog_reader.specs.View.{item_view}
use Rattle.module_rules.specs.Items.{ports_in}
use Rattle.module_rules.specs.Rules.{first_unknown}
use Rattle.module_rules.proofs.check.first_unlisted.Given as goal

abbrev pub invariant-loop-item : goal.invariant-loop-item
invariant-loop-item l = first_unknown l.table (ports_in (map item_view (drop l.item-index l.items))) ≡ first_unknown l.table (ports_in (map item_view l.items))
