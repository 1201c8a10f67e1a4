use Rattle.std.proofs.Common.{◌≡◌, map}
use Rattle.agm_net.specs.Plain.{line_of}
use Rattle.share_wiring.specs.Wiring.{lines_below}
use Rattle.share_wiring.proofs.finish.equations.Given as goal

abbrev pub invariant-loop-wire : goal.invariant-loop-wire
invariant-loop-wire l = map line_of l.out ≡ lines_below l.wires l.wire
