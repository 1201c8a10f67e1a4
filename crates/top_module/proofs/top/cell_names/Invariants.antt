use Rattle.std.proofs.Common.{◌≡◌, ℕ, false, ◌||◌, List, take}
use Rattle.std.specs.List.{list_any}
use Rattle.verilog_reader.specs.View.{item_view}
use Rattle.top_module.specs.Marks.{is_among}
use Rattle.top_module.specs.Top.{instantiates}
use Rattle.top_module.proofs.top.cell_names.Given as goal

abbrev pub invariant-loop-unit : goal.invariant-loop-unit
invariant-loop-unit l = (name : List ℕ) → is_among name l.names ≡ (false || list_any (λ m. list_any (λ item. instantiates name (item_view item)) m.items) (take l.unit-index l.modules))
