-- Every HPC2 network whose wires are ranked isolates probes.
use Rattle.std.proofs.Common.{◌≡◌, ◌+◌, ◌≤◌, ℕ, zero, suc, ◌<◌, Bool, true, ◌||◌, List, [], ◌∷◌, ◌++◌, map, length, slice_index_or, nat_eq, refl, sym, ap, ap₂, subst, arith, flat_map, eq-eqb}
use Rattle.agm_net.specs.Plain.{PlainNet}
use Rattle.agm_net.specs.Trace.{Row, bit_at}
use Rattle.std.specs.List.{range_with_len}
use Rattle.probe_cones.specs.Cone.{cone, observed, output_bits_of}
use Rattle.probe_cones.specs.declared.probe.Probe.{Probe}
use Rattle.twin_tape.proofs.Counting.{length-IsTape}
use Rattle.twin_tape.proofs.Network.{IsNetwork, IsTwin, Names, sight, sights_of}
use Rattle.twin_tape.proofs.Sizes.{adds_permitted, has_swap}
use Rattle.twin_tape.proofs.Sources.{Ranked}
use Rattle.twin_tape.proofs.TwinMap.{is_twin, twin_causal, twin_of}
use Rattle.twin_tape.proofs.TwinViews.{length_map, nil_probe, probe_shows, share_shows}
use Rattle.twin_tape.proofs.Twins.{pini_from_twins}
use Rattle.twin_tape.proofs.Views.{flat_map-ext}
use Rattle.twin_tape.specs.Laws.{HasTwins, IsCausal}
use Rattle.twin_tape.specs.Permitted.{has, known}
use Rattle.twin_tape.specs.Security.{AreProbes, Pini, role_at, sees}
use Rattle.probe_cones.specs.Inputs.{BitRole, random_width, bit_with, open_bit, random_bit, roles, share_bit}
use Rattle.twin_tape.specs.Tapes.{IsTape}

flat_map_range-ext : (f g : ℕ → List Bool) (a n m : ℕ) → a + n ≤ m → ((t : ℕ) → t < m → f t ≡ g t) → flat_map f (range_with_len a n) ≡ flat_map g (range_with_len a n)
flat_map_range-ext f g a zero m le same = refl
flat_map_range-ext f g a (suc n) m le same = ap₂ (λ x y. x ++ y) (same a (omega arith)) (flat_map_range-ext f g (a + 1) n m (omega arith) same)

has_at : (A : List ℕ) (m : ℕ) → m < length A → has A (slice_index_or A m 0) ≡ true
has_at [] m h = absurd (omega arith)
has_at (i ∷ A) zero h = ap (λ b. b || has A i) (eq-eqb i i refl)
has_at (i ∷ A) (suc m) h = or_true (nat_eq (slice_index_or A m 0) i) (has A (slice_index_or A m 0)) (has_at A m (omega arith))
  where
    or_true : (x y : Bool) → y ≡ true → (x || y) ≡ true
    or_true x y e = grind arith

-- a role that permitted indices see is one that A and the new ones see
role_in : (K L : List ℕ) (role : BitRole) → ((i : ℕ) → has K i ≡ true → has L i ≡ true) → sees K role ≡ true → sees L role ≡ true
role_in K L random_bit f e = e
role_in K L open_bit f e = refl
role_in K L (share_bit index secret) f e = f index e

-- where inputs agree on permitted shares, the twin of a random tape gives the second ones the observation that it gives the first
pub twin_sees : (net : PlainNet) (names : Names) (d : ℕ) (hpc2 : IsNetwork net names d) (ranked : Ranked net) (T : ℕ) (probes : List Probe) (A : List ℕ) → AreProbes net T probes → (power : List Bool) (first second : List Row)
    → ((t n : ℕ) → t < T → n < length (roles net) → sees (known (sights_of names probes) A T 0) (role_at net n) ≡ true → bit_at first t n ≡ bit_at second t n)
    → (r : List Row) → IsTape (random_width net) T r
    → observed net probes A T (bit_with net power first r) ≡ observed net probes A T (bit_with net power second (twin_of net names d hpc2 ranked probes A T power first second r))
twin_sees net names d hpc2 ranked T probes A inside power first second same_in r is =
    let r' = twin_of net names d hpc2 ranked probes A T power first second r in
    let x = bit_with net power first r in
    let y = bit_with net power second r' in
    let twin : IsTwin net names probes A T power first second r r' = is_twin net names d hpc2 ranked probes A T power first second r is in
    ap₂ (λ a b. a ++ b)
    (flat_map-ext (λ probe. map (x probe.cycle) (cone net probe.wire)) (λ probe. map (y probe.cycle) (cone net probe.wire)) probes nil_probe
    (λ m h. let at = inside m nil_probe h in probe_shows net names d hpc2 ranked probes A T power first second r r' twin same_in m h at.0 at.1))
    (flat_map-ext (λ i. flat_map (λ t. flat_map (λ w. map (x t) (cone net w)) (output_bits_of net i)) (range_with_len 0 T))
    (λ i. flat_map (λ t. flat_map (λ w. map (y t) (cone net w)) (output_bits_of net i)) (range_with_len 0 T)) A 0
    (λ m h. let i = slice_index_or A m 0 in
    flat_map_range-ext (λ t. flat_map (λ w. map (x t) (cone net w)) (output_bits_of net i)) (λ t. flat_map (λ w. map (y t) (cone net w)) (output_bits_of net i)) 0 T T (omega arith)
    (λ t below. flat_map-ext (λ w. map (x t) (cone net w)) (λ w. map (y t) (cone net w)) (output_bits_of net i) 0
    (λ k small. let out = hpc2.outputs i k 0 small in
    share_shows net names d hpc2 ranked probes A T power first second r r' twin same_in t (slice_index_or (output_bits_of net i) k 0) i below out.0 (has_at A m h) out.1))))

pub twins_of : (net : PlainNet) (names : Names) (d : ℕ) → IsNetwork net names d → Ranked net → (T : ℕ) (probes : List Probe) (A : List ℕ) → AreProbes net T probes → (power : List Bool) (first second : List Row)
    → ((t n : ℕ) → t < T → n < length (roles net) → sees (known (sights_of names probes) A T 0) (role_at net n) ≡ true → bit_at first t n ≡ bit_at second t n)
    → (F : List Row → List Row) × IsCausal (random_width net) T F × ((r : List Row) → IsTape (random_width net) T r → observed net probes A T (bit_with net power first r) ≡ observed net probes A T (bit_with net power second (F r)))
twins_of net names d hpc2 ranked T probes A inside power first second same_in =
    (twin_of net names d hpc2 ranked probes A T power first second, twin_causal net names d hpc2 ranked probes A T power first second, twin_sees net names d hpc2 ranked T probes A inside power first second same_in)

pub has_twins : (net : PlainNet) (names : Names) (d : ℕ) → IsNetwork net names d → Ranked net → HasTwins net d
has_twins net names d hpc2 ranked T probes A inside distinct low few =
    let sights = sights_of names probes in
    let added = adds_permitted sights A T in
    let B = added.0 in
    let long : length sights ≡ length probes = length_map (λ probe. sight (names.label probe.wire) probe.cycle) probes in (
      B,
      let le = added.2 in omega arith,
      λ power first second is_first is_second agree.
          twins_of net names d hpc2 ranked T probes A inside power first second
          (λ t n below small e.
          agree t n (subst (λ k. t < k) (sym (length-IsTape (length (roles net)) T first is_first)) below) small
          (role_in (known sights A T 0) (A ++ B) (role_at net n) (λ i h. has_swap B A i (subst (λ K. has K i ≡ true) added.1 h)) e)),
    )

pub isolates : (net : PlainNet) (names : Names) (d : ℕ) → IsNetwork net names d → Ranked net → Pini net d
isolates net names d hpc2 ranked = pini_from_twins net d (has_twins net names d hpc2 ranked)
