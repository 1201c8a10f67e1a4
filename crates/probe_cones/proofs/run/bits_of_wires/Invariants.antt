use Rattle.std.proofs.Common.{◌≡◌, ◌++◌, ◌∷◌, [], List, length, map}
use Rattle.std.specs.List.{range_with_len}
use Rattle.agm_net.specs.Loop.{HasNoLoop}
use Rattle.agm_net.specs.Plain.{PlainNet}
use Rattle.agm_net.specs.Run.{Fits, bit_in}
use Rattle.agm_net.specs.Trace.{Row}
use Rattle.cycle_sim.specs.HasRun.{HasRun}
use Rattle.probe_cones.proofs.run.bits_of_wires.Given as goal

abbrev pub invariant-loop-wire : goal.invariant-loop-wire
invariant-loop-wire l = (net : PlainNet) (power : Row) (before : List Row) (last : Row) → HasNoLoop net →
    Fits net power (before ++ last ∷ []) → HasRun net power (before ++ last ∷ []) l.sim → l.bits ≡ map (bit_in net power (before ++ last ∷ []) (length before)) (range_with_len 0 l.wire)
