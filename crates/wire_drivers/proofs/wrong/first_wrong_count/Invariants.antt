use Rattle.std.proofs.Common.{◌≡◌, ◌-◌, length}
use Rattle.std.specs.List.{find, range_with_len}
use Rattle.wire_drivers.specs.Counted.{wrong_at}
use Rattle.wire_drivers.proofs.wrong.first_wrong_count.Given as goal

abbrev pub invariant-loop-wire : goal.invariant-loop-wire
invariant-loop-wire l = find (wrong_at l.drivers l.readers) (range_with_len l.wire (length l.drivers - l.wire)) ≡ find (wrong_at l.drivers l.readers) (range_with_len 0 (length l.drivers))
