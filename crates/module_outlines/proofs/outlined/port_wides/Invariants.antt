use Rattle.std.proofs.Common.{◌≡◌, ◌++◌, map, drop}
use Rattle.module_outlines.specs.View.{wide_view, wides_by}
use Rattle.module_outlines.proofs.outlined.port_wides.Given as goal

abbrev pub invariant-loop-k : goal.invariant-loop-k
invariant-loop-k l = map wide_view l.wides ++ wides_by (drop l.k l.ports) (drop l.k l.facts) ≡ wides_by l.ports l.facts
