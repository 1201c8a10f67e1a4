use Rattle.std.proofs.Common.{◌≡◌, map, take}
use Rattle.module_outlines.specs.Outlines.{inner_bits}
use Rattle.module_outlines.specs.View.{wide_view}
use Rattle.module_outlines.proofs.bits.inner_bits.Given as goal

abbrev pub invariant-loop-wide : goal.invariant-loop-wide
invariant-loop-wide l = l.texts ≡ inner_bits l.prefix (map wide_view (take l.wide-index l.wides))
