use Rattle.std.proofs.Common.{◌≡◌, ◌++◌, drop, map}
use Rattle.twin_tape.specs.Allowed.{label_at}
use Rattle.twin_tape.specs.Plans.{mark_of}
use Rattle.twin_tape.proofs.plan.marks_of.Given as goal

abbrev pub invariant-loop-probe : goal.invariant-loop-probe
invariant-loop-probe l = l.marks ++ map (mark_of (label_at l.labels)) (drop l.probe-index l.probes) ≡ map (mark_of (label_at l.labels)) l.probes
