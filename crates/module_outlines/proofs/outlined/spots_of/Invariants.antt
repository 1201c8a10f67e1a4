use Rattle.std.proofs.Common.{◌≡◌, map, take}
use Rattle.module_outlines.specs.Outlines.{spots_from, total_width}
use Rattle.module_outlines.specs.View.{wide_view}
use Rattle.module_outlines.proofs.outlined.spots_of.Given as goal

abbrev pub invariant-loop-wide : goal.invariant-loop-wide
invariant-loop-wide l = (l.spots ≡ spots_from 0 (map wide_view (take l.wide-index l.wides))) × (l.first ≡ total_width (map wide_view (take l.wide-index l.wides)))
