use Rattle.std.proofs.Common.{◌≡◌, map, take, slice_index}
use Rattle.std.specs.List.{flat_map}
use Rattle.agm_net.specs.Plain.{stored_of}
use Rattle.wire_drivers.specs.Wiring.{kept_flop}
use Rattle.wire_drivers.specs.View.{flop_view}
use Rattle.wire_drivers.proofs.keep.registers_of.Given as goal

abbrev pub invariant-loop-flop : goal.invariant-loop-flop
invariant-loop-flop l = map stored_of l.out ≡ flat_map (kept_flop (λ w. slice_index l.numbers w)) (map flop_view (take l.flop-index l.flops))
