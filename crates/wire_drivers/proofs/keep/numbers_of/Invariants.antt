use Rattle.std.proofs.Common.{◌≡◌, ◌≤◌}
use Rattle.wire_drivers.specs.Counted.{number_at, numbers_at}
use Rattle.wire_drivers.proofs.keep.numbers_of.Given as goal

abbrev pub invariant-loop-wire : goal.invariant-loop-wire
invariant-loop-wire l =
    (l.numbers.items ≡ numbers_at l.drivers l.wire)
    × (l.next ≡ number_at l.drivers l.wire)
    × (l.next ≤ l.wire)
