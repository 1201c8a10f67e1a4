use Rattle.std.proofs.Common.{◌≡◌, ◌++◌, map, take}
use Rattle.std.specs.List.{flat_map}
use Rattle.verilog_reader.specs.View.{item_view}
use Rattle.module_outlines.specs.Outlines.{own_wides}
use Rattle.module_outlines.specs.View.{wide_view}
use Rattle.module_outlines.proofs.outlined.push_items.Given as goal

abbrev pub invariant-loop-item : goal.invariant-loop-item
invariant-loop-item l = map wide_view l.wides ≡ map wide_view l.initial.wides ++ flat_map (own_wides l.ports) (map item_view (take l.item-index l.items))
