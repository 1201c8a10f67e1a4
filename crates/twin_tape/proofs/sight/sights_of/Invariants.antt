use Rattle.std.proofs.Common.{◌≡◌, ◌++◌, drop}
use Rattle.twin_tape.specs.Allowed.{label_at}
use Rattle.twin_tape.specs.Permitted.{sights}
use Rattle.twin_tape.proofs.sight.sights_of.Given as goal

abbrev pub invariant-loop-probe : goal.invariant-loop-probe
invariant-loop-probe l = l.sights ++ sights (label_at l.labels) (drop l.probe-index l.probes) ≡ sights (label_at l.labels) l.probes
