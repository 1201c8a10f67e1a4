use Rattle.std.proofs.Common.{◌≡◌, ◌++◌, map, drop}
use Rattle.module_outlines.specs.View.{wide_view}
use Rattle.net_binding.specs.Ports.{ports_by}
use Rattle.net_binding.proofs.ports.listed.Given as goal

abbrev pub invariant-loop-i : goal.invariant-loop-i
invariant-loop-i l = l.so_far.ports ++ ports_by l.so_far.first (map wide_view (drop l.i l.wides)) (drop l.i l.ways) ≡ ports_by 0 (map wide_view l.wides) l.ways
