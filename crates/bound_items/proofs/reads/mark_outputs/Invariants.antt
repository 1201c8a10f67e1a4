use Rattle.std.proofs.Common.{◌≡◌, map, drop, fold}
use Rattle.cell_library.specs.Spelled.{pin_of}
use Rattle.bound_items.specs.Reads.{output_pins, marked}
use Rattle.bound_items.proofs.reads.mark_outputs.Given as goal

abbrev pub invariant-loop-number : goal.invariant-loop-number
invariant-loop-number l =
    fold marked l.flags (output_pins (drop l.number l.bits) (map pin_of (drop l.number l.pins)))
    ≡ fold marked l.initial.flags (output_pins l.bits (map pin_of l.pins))
