use Rattle.std.proofs.Common.{◌≡◌, map}
use Rattle.agm_net.specs.Plain.{stored_of}
use Rattle.share_wiring.specs.Wiring.{stored_below}
use Rattle.share_wiring.proofs.finish.registers.Given as goal

abbrev pub invariant-loop-wire : goal.invariant-loop-wire
invariant-loop-wire l = map stored_of l.out ≡ stored_below l.wires l.wire
