-- The map from a random tape to its twin changes each row by what the rows before it give.
use Rattle.std.proofs.Common.{◌≡◌, ℕ, zero, suc, ◌<◌, ◌≤◌, ◌⊎◌, Bool, true, false, cond, List, [], ◌∷◌, ◌++◌, length, slice_index_or, take, nat_eq, refl, sym, ap, ap₂, ◌∙◌, subst, inl, inr, ⊎_elim, arith, append_assoc, append-nil, get_or-take, length-take}
use Rattle.agm_net.specs.Formula.{xor}
use Rattle.agm_net.specs.Plain.{PlainNet}
use Rattle.agm_net.specs.Trace.{Row, bit_at}
use Rattle.probe_cones.specs.declared.probe.Probe.{Probe}
use Rattle.twin_tape.proofs.Causal.{depends_before}
use Rattle.twin_tape.proofs.Counting.{is_twisted, length-IsTape, length-twisted, twisted}
use Rattle.twin_tape.proofs.Network.{IsNetwork, IsTwin, Keeps, Names, change, half_at, sights_of, stores_seen}
use Rattle.agm_net.specs.declared.label.PartKind.TheVariants.{A as KA, B as KB, R as KR}
use Rattle.twin_tape.proofs.Parts.{There, part_sees}
use Rattle.twin_tape.proofs.ShareReads.{Sees}
use Rattle.twin_tape.proofs.Sources.{Random, Ranked, Source, source}
use Rattle.twin_tape.specs.Laws.{IsCausal, xor_row}
use Rattle.twin_tape.specs.Permitted.{half_change, has, known}
use Rattle.probe_cones.specs.Inputs.{bit_with, random_width}
use Rattle.twin_tape.specs.Tapes.{IsTape}

abbrev pub tab : ℕ → (ℕ → Bool) → List Bool
tab zero f = []
tab (suc n) f = f 0 ∷ tab n (λ k. f (suc k))

pub tab_at : (n k : ℕ) (f : ℕ → Bool) → k < n → slice_index_or (tab n f) k false ≡ f k
tab_at zero k f h = absurd (omega arith)
tab_at (suc n) zero f h = refl
tab_at (suc n) (suc k) f h = tab_at n k (λ k. f (suc k)) (omega arith)

pub xor_row_at : (row mask : List Bool) (n : ℕ) → n < length row → slice_index_or (xor_row row mask) n false ≡ xor (slice_index_or row n false) (slice_index_or mask n false)
xor_row_at [] mask n h = absurd (omega arith)
xor_row_at (true ∷ row) [] zero h = refl
xor_row_at (false ∷ row) [] zero h = refl
xor_row_at (b ∷ row) [] (suc n) h = xor_false (slice_index_or row n false)
  where
    xor_false : (b : Bool) → b ≡ xor b false
    xor_false true = refl
    xor_false false = refl
xor_row_at (b ∷ row) (m ∷ mask) zero h = refl
xor_row_at (b ∷ row) (m ∷ mask) (suc n) h = xor_row_at row mask n (omega arith)

pub twisted_at : (mask : List Row → List Row → List Bool) (past made tape : List Row) (t : ℕ) → t < length tape →
    slice_index_or (twisted mask past made tape) t [] ≡ xor_row (slice_index_or tape t []) (mask (past ++ take t tape) (made ++ take t (twisted mask past made tape)))
twisted_at mask past made [] t h = absurd (omega arith)
twisted_at mask past made (row ∷ tape) zero h = simp append-nil
twisted_at mask past made (row ∷ tape) (suc t) h = simp append_assoc at (twisted_at mask (past ++ row ∷ []) (made ++ xor_row row (mask past made) ∷ []) tape t (omega arith))

pub wide_at : (R T : ℕ) (tape : List Row) (t : ℕ) → IsTape R T tape → t < T → length (slice_index_or tape t []) ≡ R
wide_at R zero tape t is h = absurd (omega arith)
wide_at R (suc T) [] t is h = absurd is
wide_at R (suc T) (row ∷ tape) zero is h = is.0
wide_at R (suc T) (row ∷ tape) (suc t) is h = wide_at R T tape t is.1 (omega arith)

pub length-xor_row : (row mask : List Bool) → length (xor_row row mask) ≡ length row
length-xor_row [] mask = refl
length-xor_row (b ∷ row) [] = refl
length-xor_row (b ∷ row) (m ∷ mask) = ap suc (length-xor_row row mask)

pub same_rows : (xs ys : List Bool) → length xs ≡ length ys → ((n : ℕ) → n < length xs → slice_index_or xs n false ≡ slice_index_or ys n false) → xs ≡ ys
same_rows [] [] e same = refl
same_rows [] (y ∷ ys) e same = absurd (omega arith)
same_rows (x ∷ xs) [] e same = absurd (omega arith)
same_rows (x ∷ xs) (y ∷ ys) e same = ap₂ (λ b bs. b ∷ bs) (same 0 (omega arith)) (same_rows xs ys (omega arith) (λ n h. same (suc n) (omega arith)))

same_number : (n k : ℕ) (D : Source) → D ≡ Random n → D ≡ Random k → n ≡ k
same_number n k D e f = cc

module _ (net : PlainNet) (names : Names) (d : ℕ) (hpc2 : IsNetwork net names d) (ranked : Ranked net) (probes : List Probe) (A : List ℕ) (T : ℕ) (power : List Bool) (first second : List Row) where
  abbrev change_at : List Row → List Row → ℕ → ℕ → Bool
  change_at past made t n = change names probes A T (bit_with net power first past) (bit_with net power second made) t (names.gadget_of n) (names.small_of n) (names.great_of n)

  -- the row by which the rows before change a row
  abbrev pub mask : List Row → List Row → List Bool
  mask past made = tab (random_width net) (change_at past made (length past))

  abbrev pub twin_of : List Row → List Row
  twin_of tape = twisted mask [] [] tape

  pub twin_causal : IsCausal (random_width net) T twin_of
  twin_causal = record {
    change = mask;
    as_long = λ tape is. length-twisted mask [] [] tape ∙ length-IsTape (random_width net) T tape is;
    rows = λ tape is t h. twisted_at mask [] [] tape t (subst (λ n. t < n) (sym (length-IsTape (random_width net) T tape is)) h);
  }

  -- the change sees the two worlds at a pair's operands alone
  change-ext : (x x' y y' : ℕ → ℕ → Bool) (t g i j : ℕ) → ((h : ℕ) → (h ≡ i) ⊎ (h ≡ j) → (x (suc t) (names.part g KA h 0) ≡ x' (suc t) (names.part g KA h 0)) × (x t (names.part g KB h 0) ≡ x' t (names.part g KB h 0)) × (y t (names.part g KB h 0) ≡ y' t (names.part g KB h 0))) →
      change names probes A T x y t g i j ≡ change names probes A T x' y' t g i j
  change-ext x x' y y' t g i j same =
      let now = known (sights_of names probes) A T (suc t) in
      let at_i = same i (inl refl) in
      let at_j = same j (inr refl) in
      let half : (h o : ℕ) → x (suc t) (names.part g KA h 0) ≡ x' (suc t) (names.part g KA h 0) → x t (names.part g KB o 0) ≡ x' t (names.part g KB o 0) → y t (names.part g KB o 0) ≡ y' t (names.part g KB o 0) →
      half_at names probes A T x y t g h o ≡ half_at names probes A T x' y' t g h o = λ h o a b b'.
      let f : Bool → Bool → Bool → Bool = half_change (has (known (sights_of names probes) A T (suc (suc t))) h) (nat_eq (suc t) T) (stores_seen names probes g h o (suc t)) in
      ap₂ (λ u v. f u v (y t (names.part g KB o 0))) a b ∙ ap (f (x' (suc t) (names.part g KA h 0)) (x' t (names.part g KB o 0))) b' in
      ap₂ (λ u v. cond (has now i) (cond (has now j) false u) (cond (has now j) v false)) (half i j at_i.0 at_j.1 at_j.2) (half j i at_j.0 at_i.1 at_i.2)

  -- the rows before t of a tape give the values of operands that the change in row t reads
  settled_before : (inputs tape : List Row) (t c w : ℕ) → c ≤ suc t → w < length net.wires → Sees (λ i. Unit {0}) (names.label w) → bit_with net power inputs (take t tape) c w ≡ bit_with net power inputs tape c w
  settled_before inputs tape t c w le inside sees =
      depends_before net names d hpc2 ranked power inputs (take t tape) tape t (λ b n h. ap (λ row. slice_index_or row n false) (get_or-take t tape b [] h)) c w le inside sees

  -- the pair of a random bit is a pair of a gadget that is there
  pub bit_pair : (n : ℕ) → n < (random_width net) → There net names d hpc2 ranked (names.gadget_of n) × (names.small_of n ≤ d) × (names.great_of n ≤ d)
  bit_pair n small =
      let found = hpc2.bits n small in
      let w = found.0 in let g = found.1 in let i = found.2 in let j = found.3 in
      let k = subst (Keeps net names w) found.6 (hpc2.keeps w found.4) in
      let same : n ≡ k.0 = same_number n k.0 (source net w) found.5 k.1 in
      let all = hpc2.whole k.7 g i j KR k.8 k.9 in
      let lt = all.0.0 in let le = all.0.1 in (
        subst (There net names d hpc2 ranked) (sym k.3 ∙ ap names.gadget_of (sym same)) all.2,
        subst (λ i. i ≤ d) (sym k.4 ∙ ap names.small_of (sym same)) (omega arith),
        subst (λ j. j ≤ d) (sym k.5 ∙ ap names.great_of (sym same)) le,
      )

  -- the change in row t by the rows before t is that by the whole tapes
  change_prefix : (tape made : List Row) (t n : ℕ) → n < (random_width net) → change_at (take t tape) (take t made) t n ≡ change_at tape made t n
  change_prefix tape made t n small =
      let pair = bit_pair n small in
      let low : (h : ℕ) → (h ≡ names.small_of n) ⊎ (h ≡ names.great_of n) → h ≤ d = λ h one.
      ⊎_elim (λ e. subst (λ k. k ≤ d) (sym e) pair.1) (λ e. subst (λ k. k ≤ d) (sym e) pair.2) one in
      change-ext (bit_with net power first (take t tape)) (bit_with net power first tape) (bit_with net power second (take t made)) (bit_with net power second made) t
      (names.gadget_of n) (names.small_of n) (names.great_of n)
      (λ h one.
      let le = low h one in
      let part_a = pair.0 KA h 0 (le, refl) in
      let part_b = pair.0 KB h 0 (le, refl) in
      let sees_a = part_sees net names d hpc2 ranked (λ i. Unit {0}) (names.gadget_of n) h 0 KA pair.0 (le, refl) tt in
      let sees_b = part_sees net names d hpc2 ranked (λ i. Unit {0}) (names.gadget_of n) h 0 KB pair.0 (le, refl) tt in (
        settled_before first tape t (suc t) (names.part (names.gadget_of n) KA h 0) (omega arith) part_a.0 sees_a,
        settled_before first tape t t (names.part (names.gadget_of n) KB h 0) (omega arith) part_b.0 sees_b,
        settled_before second made t t (names.part (names.gadget_of n) KB h 0) (omega arith) part_b.0 sees_b,
      ))

  -- a bit of the row that the mask changes
  masked_bit : (tape made : List Row) (t n : ℕ) → IsTape (random_width net) T tape → t < T → n < (random_width net) →
      slice_index_or (xor_row (slice_index_or tape t []) (mask (take t tape) (take t made))) n false ≡ xor (bit_at tape t n) (change_at tape made t n)
  masked_bit tape made t n is below small =
      let as_long : length tape ≡ T = length-IsTape (random_width net) T tape is in
      let long : length (take t tape) ≡ t = length-take t tape ∙ omega arith in
      xor_row_at (slice_index_or tape t []) (mask (take t tape) (take t made)) n (subst (λ k. n < k) (sym (wide_at (random_width net) T tape t is below)) small) ∙
      ap (xor (bit_at tape t n))
      (tab_at (random_width net) n (change_at (take t tape) (take t made) (length (take t tape))) small ∙
      ap (λ t'. change_at (take t tape) (take t made) t' n) long ∙ change_prefix tape made t n small)

  -- the map gives a twin
  pub is_twin : (tape : List Row) → IsTape (random_width net) T tape → IsTwin net names probes A T power first second tape (twin_of tape)
  is_twin tape is t n below small =
      ap (λ row. slice_index_or row n false) (twisted_at mask [] [] tape t (subst (λ n. t < n) (sym (length-IsTape (random_width net) T tape is)) below)) ∙ masked_bit tape (twin_of tape) t n is below small

  -- and there is no other
  pub only_twin : (tape made : List Row) → IsTape (random_width net) T tape → IsTape (random_width net) T made → IsTwin net names probes A T power first second tape made → made ≡ twin_of tape
  only_twin tape made is is_made twin =
      let as_long : length tape ≡ T = length-IsTape (random_width net) T tape is in
      is_twisted mask [] [] tape made (length-IsTape (random_width net) T made is_made ∙ sym as_long)
      (λ t h.
      let below : t < T = omega arith in
      let row = xor_row (slice_index_or tape t []) (mask (take t tape) (take t made)) in
      let wide : length (slice_index_or made t []) ≡ (random_width net) = wide_at (random_width net) T made t is_made below in
      let wide_row : length row ≡ (random_width net) = length-xor_row (slice_index_or tape t []) (mask (take t tape) (take t made)) ∙ wide_at (random_width net) T tape t is below in
      same_rows (slice_index_or made t []) row (wide ∙ sym wide_row)
      (λ n n_small. let small : n < (random_width net) = omega arith in twin t n below small ∙ sym (masked_bit tape made t n is below small)))
