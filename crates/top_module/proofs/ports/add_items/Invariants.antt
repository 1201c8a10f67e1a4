use Rattle.std.proofs.Common.{◌≡◌, map, length, take}
use Rattle.verilog_reader.specs.View.{item_view}
use Rattle.top_module.specs.Steps.{facts_in}
use Rattle.top_module.proofs.ports.add_items.Given as goal

abbrev pub invariant-loop-item : goal.invariant-loop-item
invariant-loop-item l = record {
  long : length l.facts ≡ length l.names;
  grown : l.facts ≡ map (facts_in (map item_view (take l.item-index l.items))) l.names;
}
