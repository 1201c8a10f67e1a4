use Rattle.std.proofs.Common.{◌≡◌, ℕ, Bool, cond, List, [], length, ap, ◌∙◌}
use Rattle.agm_net.specs.Plain.{PlainNet}
use Rattle.probe_cones.specs.Cone.{observed}
use Rattle.probe_cones.specs.declared.probe.Probe.{Probe}
use Rattle.twin_tape.proofs.Counting.{sum_causal, sum_tapes-ext}
use Rattle.agm_net.specs.Trace.{Row}
use Rattle.twin_tape.specs.Laws.{HasTwins, IsCausal}
use Rattle.twin_tape.specs.Security.{Pini, pairs, seen}
use Rattle.probe_cones.specs.Inputs.{bit_with, random_width, roles}
use Rattle.twin_tape.specs.Tapes.{IsTape, same_row}

-- a causal map of random tapes that keeps the observation keeps the count
pub seen_same : (net : PlainNet) (power : List Bool) (first second : List Row) (probes : List Probe) (A : List ℕ) (T : ℕ) →
    (F : List Row → List Row) → IsCausal (random_width net) T F →
    ((r : List Row) → IsTape (random_width net) T r → observed net probes A T (bit_with net power first r) ≡ observed net probes A T (bit_with net power second (F r))) →
    (o : List Bool) → seen net T power first probes A o ≡ seen net T power second probes A o
seen_same net power first second probes A T F causal equal o =
    let sees : List Row → List Row → Bool = λ inputs r. same_row (observed net probes A T (bit_with net power inputs r)) o in
    sum_tapes-ext (random_width net) T (λ r. cond (sees first r) 1 0) (λ r. cond (sees second (F r)) 1 0) (λ r is. ap (λ x. cond (same_row x o) 1 0) (equal r is)) ∙
    sum_causal (random_width net) T F causal (λ r. cond (sees second r) 1 0)

-- a causal map of input tapes that leads from one test to the other and keeps counts keeps the pairs
pub pairs_same : (net : PlainNet) (power : List Bool) (probes : List Probe) (T : ℕ) (is_first is_second : List Row → Bool) (G : List Row → List Row) →
    IsCausal (length (roles net)) T G → (o : List Bool) →
    ((x : List Row) → IsTape (length (roles net)) T x → cond (is_first x) (seen net T power x probes [] o) 0 ≡ cond (is_second (G x)) (seen net T power (G x) probes [] o) 0) →
    pairs net T power is_first probes o ≡ pairs net T power is_second probes o
pairs_same net power probes T is_first is_second G causal o equal =
    sum_tapes-ext (length (roles net)) T (λ x. cond (is_first x) (seen net T power x probes [] o) 0) (λ x. cond (is_second (G x)) (seen net T power (G x) probes [] o) 0) equal ∙
    sum_causal (length (roles net)) T G causal (λ x. cond (is_second x) (seen net T power x probes [] o) 0)

pub pini_from_twins : (net : PlainNet) (d : ℕ) → HasTwins net d → Pini net d
pini_from_twins net d twins T probes A inside distinct low few =
    let found = twins T probes A inside distinct low few in (
      found.0,
      found.1,
      λ power first second is_first is_second agree o.
          let twin = found.2 power first second is_first is_second agree in
          seen_same net power first second probes A T twin.0 twin.1 twin.2 o,
    )
