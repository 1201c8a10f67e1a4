-- What it means that probes isolate, and that they tell nothing of the secrets. All is said of whole unrolled runs, from any power-up
-- contents, and of counts over all random tapes, of which each stands for the same chance.
use Rattle.std.specs.Prelude.{◌≡◌, ◌≢◌, nat_eq, ◌≤◌, ◌<◌, ◌+◌, ◌/◌, ℕ, zero, suc, Bool, true, false, ◌&&◌, cond, IsTrue, List, [], ◌∷◌, ◌++◌, length, slice_index_or, sum_by, count_by}
use Rattle.std.specs.List.{All, AllPairs, list_any}
use Rattle.agm_net.specs.Formula.{xor}
use Rattle.agm_net.specs.Plain.{PlainNet}
use Rattle.agm_net.specs.Trace.{Row, row_at, bit_at}
use Rattle.probe_cones.specs.Cone.{observed}
use Rattle.probe_cones.specs.declared.probe.Probe.{Probe}
use Rattle.probe_cones.specs.Inputs.{Secret, same_secret, BitRole, random_bit, share_bit, open_bit, roles, random_width, bit_with}
use Rattle.twin_tape.specs.Tapes.{tapes, IsTape, same_row}

-- how many random tapes of T rows give the observation o
abbrev pub seen : PlainNet → ℕ → (power : Row) → (inputs : List Row) → List Probe → List ℕ → Row → ℕ
seen net T power inputs probes A o =
    count_by (λ random. same_row (observed net probes A T (bit_with net power inputs random)) o) (tapes (random_width net) T)

-- whether a bit of this role is public or a share with a listed index
abbrev pub sees : List ℕ → BitRole → Bool
sees indices random_bit = false
sees indices (share_bit i s) = list_any (nat_eq i) indices
sees indices open_bit = true

abbrev pub role_at : PlainNet → ℕ → BitRole
role_at net n = slice_index_or (roles net) n open_bit

-- two tapes without `agm_r` are equal in each public bit and each listed share
abbrev pub Agree : PlainNet → List ℕ → (first second : List Row) → Type 0
Agree net indices first second =
    (t n : ℕ) → t < length first → n < length (roles net) → IsTrue (sees indices (role_at net n)) → bit_at first t n ≡ bit_at second t n

abbrev pub AreProbes : PlainNet → ℕ → List Probe → Type 0
AreProbes net T probes = All (λ p. (p.wire < length net.wires) × (p.cycle < T)) probes

-- Probe isolation: Cassiers and Standaert, "Trivially and Efficiently Composing Masked Gadgets With Probe Isolating Non-Interference",
-- IEEE Transactions on Information Forensics and Security, 2020, with perfect simulation said as equal counts.
-- For probes and output share indices A, together at most d, there are further indices B, at most one for each probe, such that each
-- observation is given by equally many random tapes for all inputs that agree in the shares with an index of A or B.
abbrev pub Pini : PlainNet → ℕ → Type 0
Pini net d =
    (T : ℕ) (probes : List Probe) (A : List ℕ) → AreProbes net T probes → AllPairs ◌≢◌ A → All (λ i. i ≤ d) A → length probes + length A ≤ d →
    (B : List ℕ) × (length B ≤ length probes) ×
    ((power : Row) (first second : List Row) → IsTape (length (roles net)) T first → IsTape (length (roles net)) T second →
    Agree net (A ++ B) first second → (o : Row) → seen net T power first probes A o ≡ seen net T power second probes A o)

-- the number of a cycle's step: cycle 0 is a step of its own, and then each H cycles are one
abbrev pub step_of : ℕ → ℕ → ℕ
step_of H zero = 0
step_of H (suc t) = 1 + t / H

-- the exclusive or of all shares of a shared bit in a row
abbrev pub recombined : List BitRole → Secret → Row → Bool
recombined [] s row = false
recombined (r ∷ rs) s [] = false
recombined (share_bit i x ∷ rs) s (b ∷ row) = xor (cond (same_secret x s) b false) (recombined rs s row)
recombined (_ ∷ rs) s (b ∷ row) = recombined rs s row

-- what shared bits are to recombine to in each cycle; the same in all cycles of a step
abbrev pub Secrets : Type 0
Secrets = ℕ → Secret → Bool

abbrev pub IsHeld : ℕ → ℕ → Secrets → Type 0
IsHeld T H secrets = (t u : ℕ) (s : Secret) → t < T → u < T → step_of H t ≡ step_of H u → secrets t s ≡ secrets u s

-- A sharing of secrets: a tape with the public bits of `base` whose shares recombine to them and stay the same within a step.
pub record IsSharing (net : PlainNet) (H : ℕ) (base : List Row) (secrets : Secrets) (tape : List Row) : Type 0 where
  pub open_bits : Agree net [] base tape
  pub recombines : (t n i : ℕ) (s : Secret) → t < length tape → n < length (roles net) → role_at net n ≡ share_bit i s →
      recombined (roles net) s (row_at tape t) ≡ secrets t s
  pub held : (t u n i : ℕ) (s : Secret) → t < length tape → u < length tape → n < length (roles net) → step_of H t ≡ step_of H u →
      role_at net n ≡ share_bit i s → bit_at tape t n ≡ bit_at tape u n

-- a test of tapes that tells sharings, and how many pairs of a sharing and a random tape give the observation o
abbrev pub TellsSharings : PlainNet → ℕ → ℕ → List Row → Secrets → (List Row → Bool) → Type 0
TellsSharings net T H base secrets test =
    (x : List Row) → IsTape (length (roles net)) T x → (IsTrue (test x) → IsSharing net H base secrets x) × (IsSharing net H base secrets x → IsTrue (test x))

abbrev pub pairs : PlainNet → ℕ → (power : Row) → (List Row → Bool) → List Probe → Row → ℕ
pairs net T power test probes o =
    sum_by (λ inputs. cond (test inputs) (seen net T power inputs probes [] o) 0) (tapes (length (roles net)) T)

-- Nothing of the secrets: each observation of at most d probes is given equally often, whatever the secrets are, where sharings and
-- random tapes are drawn evenly and public bits are the same.
abbrev pub Blind : PlainNet → ℕ → Type 0
Blind net d =
    (T H : ℕ) (power : Row) (probes : List Probe) → 1 ≤ H → AreProbes net T probes → length probes ≤ d →
    (base : List Row) (first second : Secrets) → length base ≡ T → IsHeld T H first → IsHeld T H second →
    (is_first is_second : List Row → Bool) → TellsSharings net T H base first is_first → TellsSharings net T H base second is_second →
    (o : Row) → pairs net T power is_first probes o ≡ pairs net T power is_second probes o

-- A net is whole at order d: each shared input bit has exactly one input bit for each share index up to d.
abbrev pub is_the_share : ℕ → Secret → BitRole → Bool
is_the_share i s (share_bit k x) = nat_eq i k && same_secret x s
is_the_share i s _ = false

abbrev pub IsWhole : PlainNet → ℕ → Type 0
IsWhole net d =
    (n i k : ℕ) (s : Secret) → n < length (roles net) → role_at net n ≡ share_bit i s → k ≤ d → count_by (is_the_share k s) (roles net) ≡ 1
