use Rattle.std.proofs.Common.{◌≡◌, ℕ, ◌||◌, List, take}
use Rattle.std.specs.List.{list_any}
use Rattle.verilog_reader.specs.View.{item_view}
use Rattle.top_module.specs.Marks.{is_among}
use Rattle.top_module.specs.Top.{instantiates}
use Rattle.top_module.proofs.top.add_cells.Given as goal

abbrev pub invariant-loop-item : goal.invariant-loop-item
invariant-loop-item l = (name : List ℕ) → is_among name l.names ≡ (is_among name l.fn.names || list_any (λ item. instantiates name (item_view item)) (take l.item-index l.items))
