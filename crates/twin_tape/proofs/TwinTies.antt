-- The twin of a random tape keeps what is to agree.
use Rattle.std.proofs.Common.{◌≡◌, ◌≢◌, ℕ, zero, suc, ◌<◌, ◌≤◌, Bool, true, false, not, ◌&&◌, cond, List, [], ◌∷◌, length, min, max, nat_eq, refl, sym, ap, ap₂, ◌∙◌, subst, inl, inr, ⊎_elim, arith, true≢false, eqb-true, ne_eqb}
use Rattle.std.proofs.lemmas.Bool.{cases_lt, cases_order, cases_Bool, or_cases}
use Rattle.agm_net.specs.Formula.{xor}
use Rattle.agm_net.specs.Plain.{PlainNet}
use Rattle.agm_net.specs.Trace.{Row, bit_at}
use Rattle.probe_cones.specs.declared.probe.Probe.{Probe}
use Rattle.twin_tape.proofs.Induction.{Ties}
use Rattle.twin_tape.proofs.KnownSets.{Splits, both_from, known_older}
use Rattle.twin_tape.proofs.Network.{IsNetwork, IsTwin, Names, change, half_at, sights_of, stores_seen}
use Rattle.agm_net.specs.declared.label.PartKind.TheVariants.{A as KA, B as KB}
use Rattle.twin_tape.proofs.PairCases.{no_change, one_in_u, one_in_w}
use Rattle.twin_tape.proofs.Parts.{PairBit, part_sees}
use Rattle.twin_tape.proofs.Sources.{Ranked}
use Rattle.twin_tape.specs.Permitted.{half_change, has, known}
use Rattle.twin_tape.specs.Security.{role_at, sees}
use Rattle.probe_cones.specs.Inputs.{BitRole, bit_with, open_bit, random_bit, roles, share_bit}

-- a role that one of the indices sees
sees_in : (K : List ℕ) (i : ℕ) (role : BitRole) → has K i ≡ true → sees (i ∷ []) role ≡ true → sees K role ≡ true
sees_in K i random_bit h e = e
sees_in K i open_bit h e = refl
sees_in K i (share_bit index secret) h e =
    let same : index ≡ i = ⊎_elim (λ e. eqb-true index i e) (λ e. absurd (true≢false (sym e))) (or_cases (nat_eq index i) false e) in
    subst (λ k. has K k ≡ true) (sym same) h

module _ (names : Names) (probes : List Probe) (A : List ℕ) (T : ℕ) (x y : ℕ → ℕ → Bool) where
  abbrev pub K : ℕ → List ℕ
  K c = known (sights_of names probes) A T c

  pub change_none : (t g i j : ℕ) → has (K (suc t)) i ≡ true → has (K (suc t)) j ≡ true → change names probes A T x y t g i j ≡ false
  change_none t g i j in_i in_j =
      ap₂ (λ p q. cond p (cond q false (half_at names probes A T x y t g i j)) (cond q (half_at names probes A T x y t g j i) false)) in_i in_j

  pub change_one : (t g i j h o : ℕ) → Splits i j h o → has (K (suc t)) h ≡ true → has (K (suc t)) o ≡ false → change names probes A T x y t g i j ≡ half_at names probes A T x y t g h o
  change_one t g i j h o (inl e) in_h out_o =
      ap₂ (λ a b. change names probes A T x y t g a b) (sym e.0) (sym e.1) ∙
      ap₂ (λ p q. cond p (cond q false (half_at names probes A T x y t g h o)) (cond q (half_at names probes A T x y t g o h) false)) in_h out_o
  change_one t g i j h o (inr e) in_h out_o =
      ap₂ (λ a b. change names probes A T x y t g a b) (sym e.1) (sym e.0) ∙
      ap₂ (λ p q. cond p (cond q false (half_at names probes A T x y t g o h)) (cond q (half_at names probes A T x y t g h o) false)) out_o in_h

pub ordered : (i j : ℕ) → i ≢ j → Splits (min i j) (max i j) i j
ordered i j ne =
    ⊎_elim (λ (e : i ≡ j). absurd (ne e)) (λ r. ⊎_elim (λ (lt : i < j). inl (omega arith, omega arith)) (λ gt. inr (omega arith, omega arith)) r) (cases_order i j)

module _ (net : PlainNet) (names : Names) (d : ℕ) (hpc2 : IsNetwork net names d) (ranked : Ranked net) (probes : List Probe) (A : List ℕ) (T : ℕ) (power : List Bool) (first second random twin : List Row)
    (is_twin : IsTwin net names probes A T power first second random twin)
    (same_in : (t n : ℕ) → t < T → n < length (roles net) → sees (known (sights_of names probes) A T 0) (role_at net n) ≡ true → bit_at first t n ≡ bit_at second t n) where
  abbrev pub x : ℕ → ℕ → Bool
  x = bit_with net power first random

  abbrev pub y : ℕ → ℕ → Bool
  y = bit_with net power second twin

  abbrev pub P : ℕ → ℕ → Type 0
  P c i = has (known (sights_of names probes) A T c) i ≡ true

  -- the twin's bit of a pair
  pub twin_bit : (t g i j : ℕ) → t < T → (q : PairBit net names d hpc2 ranked g i j) → bit_at twin t q.number ≡ xor (bit_at random t q.number) (change names probes A T x y t g i j)
  twin_bit t g i j below q =
      is_twin t q.number below q.small ∙
      ap (λ k. xor (bit_at random t q.number) (change names probes A T x y t k (names.small_of q.number) (names.great_of q.number))) q.of_gadget ∙
      ap₂ (λ a b. xor (bit_at random t q.number) (change names probes A T x y t g a b)) q.of_small q.of_great

  pub P_older : (c b i : ℕ) → b ≤ c → P c i → P b i
  P_older zero b i le p = subst (λ n. P n i) (omega arith) p
  P_older (suc c) b i le p =
      ⊎_elim (λ (lt : c < b). subst (λ n. P n i) (omega arith) p) (λ le. P_older c b i le (known_older (sights_of names probes) A T c i p)) (cases_lt c b)

  pub twin_ties : Ties net names d hpc2 ranked T power first second random twin P
  twin_ties = record {
    older = known_older (sights_of names probes) A T;
    open_in = λ t n below inside e. same_in t n below inside (subst (λ role. sees (known (sights_of names probes) A T 0) role ≡ true) (sym e) refl);
    share_in = λ t n i below inside p e. same_in t n below inside (sees_in (known (sights_of names probes) A T 0) i (role_at net n) (P_older t 0 i (omega arith) p) e);
    cross = λ c g i j below there ne le_i le_j q p earlier.
        let p1 : P (suc c) i = known_older (sights_of names probes) A T (suc c) i p in
        let a_same : x (suc c) (names.part g KA i 0) ≡ y (suc c) (names.part g KA i 0) =
        earlier (suc c) (omega arith) (names.part g KA i 0) (there KA i 0 (le_i, refl)).0 (part_sees net names d hpc2 ranked (P (suc c)) g i 0 KA there (le_i, refl) p1) in
        let bit = twin_bit c g (min i j) (max i j) (omega arith) q in
        ⊎_elim
        (λ (in_j : has (known (sights_of names probes) A T (suc c)) j ≡ true).
        let b_same : x c (names.part g KB j 0) ≡ y c (names.part g KB j 0) =
        earlier c (omega arith) (names.part g KB j 0) (there KB j 0 (le_j, refl)).0
        (part_sees net names d hpc2 ranked (P c) g j 0 KB there (le_j, refl) (known_older (sights_of names probes) A T c j in_j)) in
        let both = both_from (known (sights_of names probes) A T (suc c)) (min i j) (max i j) i j (ordered i j ne) p1 in_j in
        let r_same = no_change (bit_at random c q.number) (bit_at twin c q.number) (bit ∙ ap (xor (bit_at random c q.number)) (change_none names probes A T x y c g (min i j) (max i j) both.0 both.1)) in
        (ap₂ (λ a r. not a && r) a_same r_same, ap₂ (λ a v. a && v) a_same (ap₂ xor b_same r_same)))
        (λ out_j.
        let half : bit_at twin c q.number ≡ xor (bit_at random c q.number) (half_change true false (stores_seen names probes g i j (suc c)) (x (suc c) (names.part g KA i 0)) (x c (names.part g KB j 0)) (y c (names.part g KB j 0))) =
        bit ∙ ap (xor (bit_at random c q.number)) (change_one names probes A T x y c g (min i j) (max i j) i j (ordered i j ne) p1 out_j ∙
        ap₂ (λ next last. half_change next last (stores_seen names probes g i j (suc c)) (x (suc c) (names.part g KA i 0)) (x c (names.part g KB j 0)) (y c (names.part g KB j 0))) p (ne_eqb (suc c) T (λ e. omega arith))) in (
          one_in_u (x (suc c) (names.part g KA i 0)) (y (suc c) (names.part g KA i 0)) (x c (names.part g KB j 0)) (y c (names.part g KB j 0)) (bit_at random c q.number) (bit_at twin c q.number) (stores_seen names probes g i j (suc c)) a_same half,
          one_in_w (x (suc c) (names.part g KA i 0)) (y (suc c) (names.part g KA i 0)) (x c (names.part g KB j 0)) (y c (names.part g KB j 0)) (bit_at random c q.number) (bit_at twin c q.number) (stores_seen names probes g i j (suc c)) a_same half,
        ))
        (cases_Bool (has (known (sights_of names probes) A T (suc c)) j));
  }
