use Rattle.std.proofs.Common.{◌≡◌, map, take}
use Rattle.module_outlines.specs.View.{way_by}
use Rattle.module_outlines.proofs.outlined.ways_of.Given as goal

abbrev pub invariant-loop-facts : goal.invariant-loop-facts
invariant-loop-facts l = l.ways ≡ map way_by (take l.facts-index l.facts)
