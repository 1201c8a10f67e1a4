use Rattle.std.proofs.Common.{◌≡◌, map, take, slice_index}
use Rattle.std.specs.List.{flat_map}
use Rattle.agm_net.specs.Plain.{line_of}
use Rattle.wire_drivers.specs.Wiring.{kept_line}
use Rattle.wire_drivers.specs.View.{line_view}
use Rattle.wire_drivers.proofs.keep.equations_of.Given as goal

abbrev pub invariant-loop-line : goal.invariant-loop-line
invariant-loop-line l = map line_of l.out ≡ flat_map (kept_line (λ w. slice_index l.numbers w)) (map line_view (take l.line-index l.lines))
