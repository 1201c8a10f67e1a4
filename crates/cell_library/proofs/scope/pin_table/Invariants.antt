use Rattle.std.proofs.Common.{◌≡◌, [], take, drop}
use Rattle.cell_library.specs.Judged.{all_new}
use Rattle.cell_library.specs.Known.{names_in}
use Rattle.cell_library.proofs.scope.pin_table.Given as goal

abbrev pub invariant-loop-pin : goal.invariant-loop-pin
invariant-loop-pin l = (all_new l.table (names_in (drop l.pin-index l.pins)) ≡ all_new [] (names_in l.pins)) × (l.table ≡ names_in (take l.pin-index l.pins))
