-- What the laws of this crate say.
use Rattle.std.specs.Prelude.{◌≡◌, ◌≢◌, ◌≤◌, ◌<◌, ◌+◌, ℕ, Bool, List, [], ◌∷◌, ◌++◌, length, take, sum_by, count_by}
use Rattle.std.specs.List.{All, AllPairs}
use Rattle.agm_net.specs.Formula.{xor}
use Rattle.agm_net.specs.Plain.{PlainNet}
use Rattle.agm_net.specs.Trace.{Row, row_at}
use Rattle.probe_cones.specs.Cone.{observed}
use Rattle.probe_cones.specs.declared.probe.Probe.{Probe}
use Rattle.probe_cones.specs.Inputs.{roles, random_width, bit_with}
use Rattle.twin_tape.specs.Tapes.{tapes, IsTape}
use Rattle.twin_tape.specs.Security.{Agree, AreProbes}

-- two rows bit by bit; past the end of the second row the first one stays
abbrev pub xor_row : Row → Row → Row
xor_row [] change = []
xor_row (b ∷ bs) [] = b ∷ bs
xor_row (b ∷ bs) (c ∷ cs) = xor b c ∷ xor_row bs cs

-- A map of tapes in which row t is changed by bits that depend on the rows before t alone, of the tape and of its image.
pub record IsCausal (R T : ℕ) (F : List Row → List Row) : Type 0 where
  pub change : List Row → List Row → Row
  pub as_long : (tape : List Row) → IsTape R T tape → length (F tape) ≡ T
  pub rows : (tape : List Row) → IsTape R T tape → (t : ℕ) → t < T → row_at (F tape) t ≡ xor_row (row_at tape t) (change (take t tape) (take t (F tape)))

-- Such a map meets each tape once, so it leaves each sum over all tapes as it is, and each count.
abbrev pub SumsStay : Type 0
SumsStay = (R T : ℕ) (F : List Row → List Row) → IsCausal R T F → (f : List Row → ℕ) → sum_by (λ tape. f (F tape)) (tapes R T) ≡ sum_by f (tapes R T)

-- Two maps of tapes that undo each other.
pub record IsInverse (R T : ℕ) (F G : List Row → List Row) : Type 0 where
  pub to : (tape : List Row) → IsTape R T tape → IsTape R T (F tape)
  pub back : (tape : List Row) → IsTape R T tape → IsTape R T (G tape)
  pub undone : (tape : List Row) → IsTape R T tape → G (F tape) ≡ tape
  pub redone : (tape : List Row) → IsTape R T tape → F (G tape) ≡ tape

-- Sets of tapes in bijection have the same count, since each tape counts once.
abbrev pub BijectedCounts : Type 0
BijectedCounts =
    (R T : ℕ) (F G : List Row → List Row) → IsInverse R T F G → (p q : List Row → Bool) → ((tape : List Row) → IsTape R T tape → p tape ≡ q (F tape)) →
    count_by p (tapes R T) ≡ count_by q (tapes R T)

-- For each choice of probes and indices there are indices B such that inputs that agree on A and B have a map of random tapes that is
-- causal and keeps the observation.
abbrev pub HasTwins : PlainNet → ℕ → Type 0
HasTwins net d =
    (T : ℕ) (probes : List Probe) (A : List ℕ) → AreProbes net T probes → AllPairs ◌≢◌ A → All (λ i. i ≤ d) A → length probes + length A ≤ d →
    (B : List ℕ) × (length B ≤ length probes) ×
    ((power : Row) (first second : List Row) → IsTape (length (roles net)) T first → IsTape (length (roles net)) T second → Agree net (A ++ B) first second →
    (F : List Row → List Row) × IsCausal (random_width net) T F ×
    ((r : List Row) → IsTape (random_width net) T r → observed net probes A T (bit_with net power first r) ≡ observed net probes A T (bit_with net power second (F r))))
