use Rattle.std.proofs.Common.{◌≡◌, List, length, take}
use Rattle.agm_net.specs.Plain.{data_ports}
use Rattle.agm_net.specs.Trace.{Row}
use Rattle.agm_net.specs.View.{plain_of}
use Rattle.cycle_sim.specs.HasRun.{HasRun}
use Rattle.probe_cones.specs.Observing.{flags_of, joined_rows}
use Rattle.twin_tape.specs.Allowed.{label_at}
use Rattle.twin_tape.specs.Twinned.{IsTwinOf}
use Rattle.twin_tape.proofs.making.rows_of.Given as goal

abbrev pub invariant-loop-cycle : goal.invariant-loop-cycle
invariant-loop-cycle l = (made : List Row) → IsTwinOf (plain_of l.net) l.order (label_at l.labels) l.probes (length l.random.rows) l.power_up l.first.rows l.second.rows l.random.rows made →
    (l.rows ≡ take l.cycle made) × HasRun (plain_of l.net) l.power_up (joined_rows (flags_of (data_ports (plain_of l.net))) l.second.rows made l.cycle) l.sim
