-- What is said of the twin of a random tape that is made.
use Rattle.std.specs.Prelude.{◌≡◌, ◌++◌, ◌∷◌, [], ℕ, Bool, List, length}
use Rattle.agm_net.specs.Plain.{PlainNet}
use Rattle.agm_net.specs.Run.{Fits}
use Rattle.agm_net.specs.Trace.{Row}
use Rattle.agm_net.specs.declared.label.Label.{Label}
use Rattle.cycle_sim.specs.HasRun.{HasRun}
use Rattle.cycle_sim.specs.declared.sim.Sim.{Sim}
use Rattle.probe_cones.specs.Cone.{observed}
use Rattle.probe_cones.specs.Inputs.{bit_with, random_width}
use Rattle.probe_cones.specs.Observing.{joined_by, wires_in}
use Rattle.probe_cones.specs.declared.probe.Probes.{Probes}
use Rattle.twin_tape.specs.Changes.{changed_row}
use Rattle.twin_tape.specs.Permitted.{permitted, sights}
use Rattle.twin_tape.specs.Security.{Agree}
use Rattle.twin_tape.specs.Tapes.{IsTape}
use Rattle.twin_tape.specs.Twin.{IsTwin}
use Rattle.twin_tape.specs.declared.pairs.Pair.{Pair}
use Rattle.twin_tape.specs.declared.plan.Plan.{Plan}

-- a simulator that has run a net, for some cycles
abbrev pub IsRunning : PlainNet → Sim → Type 0
IsRunning net sim = (power : Row) × (before : List Row) × HasRun net power before sim

-- The second world's cycle is run with a row that the values of its wires give, which do not depend on that row.
abbrev pub Moves : PlainNet → List Bool → Plan → List Pair → List Row → ℕ → Row → Row → Sim → Sim → Row → Type 0
Moves net flags plan pairs table t second random old new row =
    (power : Row) (before : List Row) → HasRun net power before old → Fits net power (before ++ joined_by flags second random ∷ []) →
    (row ≡ changed_row plan table (wires_in net power (before ++ joined_by flags second random ∷ []) (length before)) t pairs random)
    × HasRun net power (before ++ joined_by flags second row ∷ []) new

module _ (net : PlainNet) (d : ℕ) (label : ℕ → Label) (probes : Probes) (T : ℕ) (power : Row) where
  -- the twin of a random tape
  abbrev pub IsTwinOf : (first second random twin : List Row) → Type 0
  IsTwinOf first second random twin = IsTape (random_width net) T twin × IsTwin net d label probes.probes probes.indices T power first second random twin

  abbrev pub AgreeEnough : (first second : List Row) → Type 0
  AgreeEnough first second = Agree net (permitted (sights label probes.probes) probes.indices T) first second

  -- with the second inputs it gives the observation that the tape gives with the first
  abbrev pub SeesAlike : (first second random twin : List Row) → Type 0
  SeesAlike first second random twin =
      AgreeEnough first second →
      observed net probes.probes probes.indices T (bit_with net power first random) ≡ observed net probes.probes probes.indices T (bit_with net power second twin)

  -- and the twin of the twin, with the inputs exchanged, is the tape
  abbrev pub LeadsBack : (first second random twin : List Row) → Type 0
  LeadsBack first second random twin =
      AgreeEnough first second → (back : List Row) → IsTwinOf second first twin back → back ≡ random
