use Rattle.std.proofs.Common.{◌≡◌, drop, Some}
use Rattle.agm_net.specs.Checks.{are_named}
use Rattle.agm_net.specs.Plain.{bit_names}
use Rattle.agm_net.proofs.checks.are_range_bits_named.Given as goal

abbrev pub invariant-loop-i : goal.invariant-loop-i
invariant-loop-i l = are_named l.wires (drop l.i l.bits) (drop l.i (bit_names l.name (Some l.range))) ≡ are_named l.wires l.bits (bit_names l.name (Some l.range))
