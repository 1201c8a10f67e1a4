-- The exchange of the worlds undoes the twin.
use Rattle.std.proofs.Common.{◌≡◌, ◌≢◌, ℕ, suc, ◌<◌, ◌≤◌, Bool, true, false, ◌&&◌, cond, List, length, nat_eq, refl, sym, ap, ap₂, ◌∙◌, arith, eq-eqb, true≢false}
use Rattle.agm_net.specs.Formula.{xor}
use Rattle.agm_net.specs.Plain.{PlainNet}
use Rattle.agm_net.specs.Trace.{Row, bit_at}
use Rattle.probe_cones.specs.declared.probe.Probe.{Probe}
use Rattle.twin_tape.proofs.Induction.{alike}
use Rattle.twin_tape.proofs.KnownSets.{known_older}
use Rattle.twin_tape.proofs.Network.{IsNetwork, IsTwin, Names, change, half_at, sights_of, stores_seen}
use Rattle.agm_net.specs.declared.label.PartKind.TheVariants.{A as KA, B as KB}
use Rattle.twin_tape.proofs.Parts.{There, part_sees}
use Rattle.twin_tape.proofs.Sources.{Ranked}
use Rattle.twin_tape.proofs.TwinMap.{bit_pair, only_twin, twin_of}
use Rattle.twin_tape.proofs.TwinTies.{twin_ties}
use Rattle.twin_tape.specs.Permitted.{half_change, has, known}
use Rattle.twin_tape.specs.Security.{role_at, sees}
use Rattle.probe_cones.specs.Inputs.{bit_with, random_width, roles}
use Rattle.twin_tape.specs.Tapes.{IsTape}

half_swap : (next last probed a a' b b' : Bool) → (next ≡ true → last ≡ false → a ≡ a') → half_change next last probed a' b' b ≡ half_change next last probed a b b'
half_swap true false probed a a' b b' same = swap a a' b b' (same refl refl)
  where
    swap : (a a' b b' : Bool) → a ≡ a' → (a' && xor b' b) ≡ (a && xor b b')
    swap a a' b b' e = grind arith
half_swap true true probed a a' b b' same = refl
half_swap false last probed a a' b b' same = ap (λ c. cond probed c false) (xor_swap b b')
  where
    xor_swap : (b b' : Bool) → xor b' b ≡ xor b b'
    xor_swap b b' = grind arith

undo : (r r' c c' : Bool) → r' ≡ xor r c → c' ≡ c → r ≡ xor r' c'
undo r r' c c' e f = grind arith

module _ (net : PlainNet) (names : Names) (d : ℕ) (hpc2 : IsNetwork net names d) (ranked : Ranked net) (probes : List Probe) (A : List ℕ) (T : ℕ) (power : List Bool) (first second random twin : List Row)
    (is_twin : IsTwin net names probes A T power first second random twin)
    (same_in : (t n : ℕ) → t < T → n < length (roles net) → sees (known (sights_of names probes) A T 0) (role_at net n) ≡ true → bit_at first t n ≡ bit_at second t n) where
  abbrev x : ℕ → ℕ → Bool
  x = bit_with net power first random

  abbrev y : ℕ → ℕ → Bool
  y = bit_with net power second twin

  abbrev P : ℕ → ℕ → Type 0
  P c i = has (known (sights_of names probes) A T c) i ≡ true

  half_exchanged : (t g h o : ℕ) → t < T → There net names d hpc2 ranked g → h ≤ d → half_at names probes A T y x t g h o ≡ half_at names probes A T x y t g h o
  half_exchanged t g h o below there le =
      half_swap (has (known (sights_of names probes) A T (suc (suc t))) h) (nat_eq (suc t) T) (stores_seen names probes g h o (suc t))
      (x (suc t) (names.part g KA h 0)) (y (suc t) (names.part g KA h 0)) (x t (names.part g KB o 0)) (y t (names.part g KB o 0))
      (λ next last.
      let not_last : suc t ≢ T = λ e. true≢false (sym (eq-eqb (suc t) T e) ∙ last) in
      alike net names d hpc2 ranked T power first second random twin P (twin_ties net names d hpc2 ranked probes A T power first second random twin is_twin same_in) (suc t) (omega arith)
      (names.part g KA h 0) (there KA h 0 (le, refl)).0
      (part_sees net names d hpc2 ranked (P (suc t)) g h 0 KA there (le, refl) (known_older (sights_of names probes) A T (suc t) h next)))

  pub exchanged : IsTwin net names probes A T power second first twin random
  exchanged t n below small =
      let pair = bit_pair net names d hpc2 ranked probes A T power first second n small in
      let g = names.gadget_of n in let i = names.small_of n in let j = names.great_of n in
      let now = known (sights_of names probes) A T (suc t) in
      undo (bit_at random t n) (bit_at twin t n) (change names probes A T x y t g i j) (change names probes A T y x t g i j) (is_twin t n below small)
      (ap₂ (λ u v. cond (has now i) (cond (has now j) false u) (cond (has now j) v false)) (half_exchanged t g i j below pair.0 pair.1) (half_exchanged t g j i below pair.0 pair.2))

-- the twin of the twin, with the worlds exchanged, is the tape
pub twin_back : (net : PlainNet) (names : Names) (d : ℕ) (hpc2 : IsNetwork net names d) (ranked : Ranked net) (probes : List Probe) (A : List ℕ) (T : ℕ) (power : List Bool) (first second random twin : List Row) →
    IsTape (random_width net) T random → IsTape (random_width net) T twin → IsTwin net names probes A T power first second random twin →
    ((t n : ℕ) → t < T → n < length (roles net) → sees (known (sights_of names probes) A T 0) (role_at net n) ≡ true → bit_at first t n ≡ bit_at second t n) →
    random ≡ twin_of net names d hpc2 ranked probes A T power second first twin
twin_back net names d hpc2 ranked probes A T power first second random twin is is' is_twin same_in =
    only_twin net names d hpc2 ranked probes A T power second first twin random is' is (exchanged net names d hpc2 ranked probes A T power first second random twin is_twin same_in)
