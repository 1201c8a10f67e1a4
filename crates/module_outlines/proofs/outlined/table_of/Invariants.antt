use Rattle.std.proofs.Common.{◌≡◌, map, take}
use Rattle.module_outlines.specs.Outlines.{wide_name}
use Rattle.module_outlines.specs.View.{wide_view}
use Rattle.module_outlines.proofs.outlined.table_of.Given as goal

abbrev pub invariant-loop-wide : goal.invariant-loop-wide
invariant-loop-wide l = l.table ≡ map wide_name (map wide_view (take l.wide-index l.wides))
