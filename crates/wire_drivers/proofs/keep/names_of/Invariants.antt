use Rattle.std.proofs.Common.{◌≡◌}
use Rattle.std.specs.List.{flat_map, range_with_len}
use Rattle.wire_drivers.specs.Counted.{name_at}
use Rattle.wire_drivers.proofs.keep.names_of.Given as goal

abbrev pub invariant-loop-wire : goal.invariant-loop-wire
invariant-loop-wire l = l.names ≡ flat_map (name_at l.drivers l.wires) (range_with_len 0 l.wire)
