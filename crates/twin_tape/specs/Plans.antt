-- What the probes of a run ask of a twin, in lists.
use Rattle.std.specs.Prelude.{◌≡◌, ◌+◌, ℕ, List, map}
use Rattle.std.specs.List.{range_with_len}
use Rattle.agm_net.specs.declared.label.Label.{Label}
use Rattle.probe_cones.specs.declared.probe.Probe.{Probe}
use Rattle.twin_tape.specs.Permitted.{sights, taken}
use Rattle.twin_tape.specs.declared.plan.Mark.{Mark}
use Rattle.twin_tape.specs.declared.plan.Plan.{Plan}

-- a probe by the label of its wire
abbrev pub mark_of : (ℕ → Label) → Probe → Mark
mark_of label p = record { label = label p.wire; cycle = p.cycle }

-- the indices stage by stage, from the latest on, and the probes by labels
pub record IsPlan (label : ℕ → Label) (probes : List Probe) (A : List ℕ) (T : ℕ) (plan : Plan) : Type 0 where
  pub cycles : plan.cycles ≡ T
  pub stages : plan.stages ≡ map (taken (sights label probes) A T) (range_with_len 0 (T + 1))
  pub marks : plan.marks ≡ map (mark_of label) probes
