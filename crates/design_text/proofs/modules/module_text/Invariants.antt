use Rattle.std.proofs.Common.{◌≡◌, ◌++◌, take, map}
use Rattle.std.specs.List.{flat_map}
use Rattle.verilog_reader.specs.View.{item_view}
use Rattle.design_text.specs.Parts.{parts_text}
use Rattle.design_text.specs.Written as spec
use Rattle.design_text.proofs.modules.module_text.Given as goal

abbrev pub invariant-loop-item : goal.invariant-loop-item
invariant-loop-item l = l.text ≡ l.initial.text ++ parts_text (flat_map spec.item_parts (map item_view (take l.item-index l.whole.items)))
