-- The rows of a gadget's parts, and that all parts are there.
use Rattle.std.proofs.Common.{◌≡◌, ◌≢◌, ◌<◌, ◌≤◌, ◌+◌, ◌-◌, ◌*◌, ◌/◌, ◌%◌, ℕ, List, length, slice_set, sym, ap, subst, inl, inr, ◌∙◌, arith}
use Rattle.std.proofs.lemmas.Bool.{cases_eq, cases_lt}
use Rattle.std.proofs.lemmas.List.{get_or-set_other, get_or-set_same, length-set}
use Rattle.agm_net.specs.Label.{part, HasNumbers}
use Rattle.agm_net.specs.Network.{partial_sum}
use Rattle.agm_net.specs.declared.label.PartKind.{PartKind}
use Rattle.agm_net.specs.declared.label.PartKind.TheVariants.{Clk, A, B, R, Rr, Bb, Vx, V, Na, Ux, U, Wx, W, Mx, M, S, C}
use Rattle.share_wiring.specs.Wiring.{Wiring, share}
use Rattle.share_wiring.specs.Adds.{Extends}
use Rattle.share_wiring.specs.Networks.{IsPartWire, Rules}
use Rattle.share_wiring.specs.declared.gate.Wire.{Wire}
use Rattle.hpc2_gadget.specs.Order.{place_of}
use Rattle.hpc2_gadget.specs.Sound.{At, Has, IsSum, HasHalf, HasPair, IsSide, AreParts, HasSquares, AreFactors, IsStarted, IsUnderWay, HasRow, HasRows, IsFull}
use Rattle.hpc2_gadget.proofs.Placing.{later, has_later, pair_later, parts_later}
use Rattle.hpc2_gadget.proofs.Terms.{sum_between, sum_last}

-- one part of a kind more
pub parts_more : (n g : ℕ) (kind : PartKind) (m w : ℕ) (shares : List ℕ) (old new : Wiring) → m < length shares → Extends old new → AreParts n g old kind m shares → At n g new kind m 0 w
    → AreParts n g new kind (m + 1) (slice_set shares m w)
parts_more n g kind m w shares old new fits e before at k lt =
    let here : share (slice_set shares m w) m ≡ w = get_or-set_same shares m w 0 fits in
    elim (cases_eq k m) [
      | inl same ↦ subst (λ q. At n g new kind q 0 (share (slice_set shares m w) q)) (sym same) (subst (At n g new kind m 0) (sym here) at)
      | inr other ↦ (let differs = other in
          subst (At n g new kind k 0) (sym (get_or-set_other shares m k w 0 other)) (later n g old new e (part g kind k 0) (share shares k) (before k (omega arith))))
    ]

-- one square more
pub squares_more : (n g m : ℕ) (old new : Wiring) → Extends old new → HasSquares n g old m → Has n g new Bb m 0 → Has n g new Mx m 0 → HasSquares n g new (m + 1)
squares_more n g m old new e before bb mx k lt =
    elim (cases_eq k m) [
      | inl same ↦ subst (λ q. Has n g new Bb q 0 × Has n g new Mx q 0) (sym same) (bb, mx)
      | inr other ↦ (let differs = other in let h = before k (omega arith) in (has_later n g old new e Bb k 0 h.0, has_later n g old new e Mx k 0 h.1))
    ]

pub squares_later : (n g m : ℕ) (old new : Wiring) → Extends old new → HasSquares n g old m → HasSquares n g new m
squares_later n g m old new e before k lt = let h = before k lt in (has_later n g old new e Bb k 0 h.0, has_later n g old new e Mx k 0 h.1)

pub factors_later : (n g : ℕ) (old new : Wiring) (a inverse b : List ℕ) → Extends old new → AreFactors n g old a inverse b → AreFactors n g new a inverse b
factors_later n g old new a inverse b e h =
    record { first = parts_later n g old new e A n a h.first; inverted = parts_later n g old new e Na n inverse h.inverted; second = parts_later n g old new e B n b h.second }

-- the sides of a pair
pub low_side : (n g i j : ℕ) (net : Wiring) (a inverse b shares : List ℕ) → i < j → j < n → AreFactors n g net a inverse b → IsUnderWay n g net j i shares
    → IsSide n g net i (2 * place_of i j) (share a i) (share inverse i) (share b i) (share shares i)
low_side n g i j net a inverse b shares lt below factors under =
    let at : 2 * (j - 1) ≡ 2 * place_of i j = omega arith in
    let fits : i < n = omega arith in
    record {
      first = factors.first i fits;
      inverted = factors.inverted i fits;
      second = factors.second i fits;
      summed = subst (λ m. IsSum n g net i m (share shares i)) at (under.middle i (omega arith) lt);
    }

pub high_side : (n g i j : ℕ) (net : Wiring) (a inverse b shares : List ℕ) → i < j → j < n → AreFactors n g net a inverse b → IsUnderWay n g net j i shares
    → IsSide n g net j (2 * place_of j i) (share a j) (share inverse j) (share b j) (share shares j)
high_side n g i j net a inverse b shares lt below factors under =
    let at : 2 * i ≡ 2 * place_of j i = omega arith in
    record { first = factors.first j below; inverted = factors.inverted j below; second = factors.second j below; summed = subst (λ m. IsSum n g net j m (share shares j)) at under.own }

-- a row begins
pub under_none : (n g j : ℕ) (net : Wiring) (shares : List ℕ) → j < n → IsStarted n g net j shares → IsUnderWay n g net j 0 shares
under_none n g j net shares below started =
    record { low = λ k lt. absurd (omega arith); middle = λ k some lt. started.lower k lt; own = started.others j (omega arith) below; high = λ k lt fits. started.others k (omega arith) fits }

-- one pair more
pub under_more : (n g i j p q : ℕ) (old new : Wiring) (shares : List ℕ) → i < j → j < n → length shares ≡ n → Extends old new → IsUnderWay n g old j i shares
    → IsSum n g new i (2 * place_of i j + 2) p → IsSum n g new j (2 * place_of j i + 2) q → IsUnderWay n g new j (i + 1) (slice_set (slice_set shares i p) j q)
under_more n g i j p q old new shares lt below full e under at_i at_j =
    let one = slice_set shares i p in
    let all = slice_set one j q in
    let count : length one ≡ n = length-set shares i p ∙ full in
    let first : share one i ≡ p = get_or-set_same shares i p 0 (omega (arith, lt, below, full)) in
    let second : share all j ≡ q = get_or-set_same one j q 0 (omega (arith, count, below)) in
    let two : 2 * place_of i j + 2 ≡ 2 * j = omega (arith, lt) in
    let two' : 2 * place_of j i + 2 ≡ 2 * (i + 1) = omega (arith, lt) in
    let stays : (k m : ℕ) → k ≢ i → k ≢ j → IsSum n g old k m (share shares k) → IsSum n g new k m (share all k) =
    λ k m not_i not_j h. subst (IsSum n g new k m) (sym (get_or-set_other one j k q 0 not_j ∙ get_or-set_other shares i k p 0 not_i)) (later n g old new e (partial_sum (n - 1) g k m) (share shares k) h) in
    let at_low : share all i ≡ p = get_or-set_other one j i q 0 (λ same. (let equal = same in omega (arith, lt, equal))) ∙ first in
    record {
      low = λ k h. elim (cases_eq k i) [
        | inl same ↦ subst (λ x. IsSum n g new x (2 * j) (share all x)) (sym same) (subst (IsSum n g new i (2 * j)) (sym at_low) (subst (λ m. IsSum n g new i m p) two at_i))
        | inr other ↦ (let differs = other in let before : k < i = omega (arith, h, differs) in stays k (2 * j) other (λ same. (let equal = same in omega (arith, lt, before, equal))) (under.low k before))
      ];
      middle = λ k ge h. stays k (2 * (j - 1)) (λ same. (let equal = same in omega (arith, ge, equal))) (λ same. (let equal = same in omega (arith, h, equal))) (under.middle k (omega (arith, ge)) h);
      own = subst (IsSum n g new j (2 * (i + 1))) (sym second) (subst (λ m. IsSum n g new j m q) two' at_j);
      high = λ k h fits. stays k 0 (λ same. (let equal = same in omega (arith, lt, h, equal))) (λ same. (let equal = same in omega (arith, h, equal))) (under.high k h fits);
    }

pub pairs_more : (n g i j : ℕ) (old new : Wiring) → Extends old new → HasRow n g old j i → HasPair n g new i j → HasRow n g new j (i + 1)
pairs_more n g i j old new e before pair k lt =
    elim (cases_eq k i) [
      | inl same ↦ subst (λ q. HasPair n g new q j) (sym same) pair
      | inr other ↦ (let differs = other in pair_later n g old new e k j (before k (omega arith)))
    ]

-- a row ends
pub under_all : (n g j : ℕ) (net : Wiring) (shares : List ℕ) → IsUnderWay n g net j j shares → IsStarted n g net (j + 1) shares
under_all n g j net shares under =
    let at : 2 * j ≡ 2 * (j + 1 - 1) = omega arith in
    record {
      lower = λ k lt. subst (λ m. IsSum n g net k m (share shares k)) at (elim (cases_eq k j) [
        | inl same ↦ subst (λ q. IsSum n g net q (2 * j) (share shares q)) (sym same) under.own
        | inr other ↦ (let differs = other in under.low k (omega arith))
      ]);
      others = λ k ge fits. under.high k (omega arith) fits;
    }

-- the start of the rows
pub started_none : (n g : ℕ) (net : Wiring) (shares : List ℕ) → AreParts n g net M n shares → IsStarted n g net 0 shares
started_none n g net shares h = record { lower = λ k lt. absurd (omega arith); others = λ k ge fits. h k fits }

pub rows_one : (n g j : ℕ) (old new : Wiring) → Extends old new → HasRows n g old j → HasRow n g new j j → HasRows n g new (j + 1)
rows_one n g j old new e before row i q lt below =
    elim (cases_eq q j) [
      | inl same ↦ subst (HasPair n g new i) (sym same) (row i (subst (λ x. i < x) same lt))
      | inr other ↦ (let differs = other in pair_later n g old new e i q (before i q lt (omega arith)))
    ]

-- ---- all parts are there

half_of : (n g : ℕ) (net : Wiring) (i j : ℕ) → HasRows n g net n → i < n → j < n → i ≢ j → HasHalf n g net i j
half_of n g net i j rows hi hj other =
    elim (cases_lt i j) [
      | inl lt ↦ (rows i j lt hj).upper
      | inr ge ↦ (let differs = other in (rows j i (omega arith) hi).lower)
    ]

-- the index at a place
index_at : (d i p : ℕ) → i ≤ d → p < d → (j : ℕ) × (j ≤ d) × (i ≢ j) × (place_of i j ≡ p)
index_at d i p hi lt =
    elim (cases_lt p i) [
      | inl before ↦ (p, omega arith, (λ e. (let same = e in omega (arith, before, same))), omega arith)
      | inr past ↦ (p + 1, omega arith, (λ e. (let same = e in omega (arith, past, same))), omega arith)
    ]

module _ (n g : ℕ) (net : Wiring) (some : 2 ≤ n) (rows : HasRows n g net n) where
  -- a partial sum is odd or even
  sum_there : (i m : ℕ) → i ≤ n - 1 → 1 ≤ m → m < 2 * (n - 1) → Has n g net S i m
  sum_there i m hi low high =
      let k = m - 1 in
      let p = k / 2 in
      let r = k % 2 in
      let split : k ≡ 2 * p + r = omega arith in
      let small : r < 2 = omega arith in
      let found = index_at (n - 1) i p hi (omega (arith, split, high, low)) in
      let half = half_of n g net i found.0 rows (omega arith) (let le = found.1 in omega arith) found.2 in
      elim (cases_eq r 0) [
        | inl none ↦ (
            let at : 2 * place_of i found.0 + 1 ≡ m = (let place = found.3 in omega (arith, split, none, low, place)) in
            subst (Has n g net S i) at half.odd)
        | inr other ↦ (
            let differs = other in
            let at : 2 * place_of i found.0 + 2 ≡ m = (let place = found.3 in omega (arith, split, small, differs, low, place)) in
            let is = sum_between (n - 1) g i m low high in
            (half.even.0, subst (λ q. IsPartWire (n - 1) net.wires q half.even.0) (ap (partial_sum (n - 1) g i) at ∙ is) half.even.1))
      ]

  last_there : (i : ℕ) → i ≤ n - 1 → Has n g net C i 0
  last_there i hi =
      let found = index_at (n - 1) i (n - 1 - 1) hi (omega arith) in
      let half = half_of n g net i found.0 rows (omega arith) (let le = found.1 in omega arith) found.2 in
      let end : 2 * place_of i found.0 + 2 ≡ 2 * (n - 1) = (let place = found.3 in omega (arith, place, some)) in
      (half.even.0, subst (λ q. IsPartWire (n - 1) net.wires q half.even.0) (sum_last (n - 1) g i (2 * place_of i found.0 + 2) (omega arith) end) half.even.1)

  one_there : (kind : PartKind) (i j : ℕ) → j ≡ 0 → Has n g net kind i 0 → Has n g net kind i j
  one_there kind i j none h = subst (Has n g net kind i) (sym none) h

  pub full : (clock : ℕ) (a inverse b sums : List ℕ) → At n g net Clk 0 0 clock → AreFactors n g net a inverse b → AreParts n g net M n sums → HasSquares n g net n → IsFull n g net
  full clock a inverse b sums clk factors squared squares Clk i j (first, second) = subst (λ q. Has n g net Clk q j) (sym first) (one_there Clk 0 j second (clock, clk))
  full clock a inverse b sums clk factors squared squares A i j (le, none) = one_there A i j none (share a i, factors.first i (omega arith))
  full clock a inverse b sums clk factors squared squares B i j (le, none) = one_there B i j none (share b i, factors.second i (omega arith))
  full clock a inverse b sums clk factors squared squares Na i j (le, none) = one_there Na i j none (share inverse i, factors.inverted i (omega arith))
  full clock a inverse b sums clk factors squared squares M i j (le, none) = one_there M i j none (share sums i, squared i (omega arith))
  full clock a inverse b sums clk factors squared squares Bb i j (le, none) = one_there Bb i j none (squares i (omega arith)).0
  full clock a inverse b sums clk factors squared squares Mx i j (le, none) = one_there Mx i j none (squares i (omega arith)).1
  full clock a inverse b sums clk factors squared squares R i j (lt, le, few) = (rows i j lt (omega arith)).random
  full clock a inverse b sums clk factors squared squares Rr i j (lt, le) = (rows i j lt (omega arith)).random_later
  full clock a inverse b sums clk factors squared squares Vx i j (hi, hj, other) = (half_of n g net i j rows (omega arith) (omega arith) other).masked
  full clock a inverse b sums clk factors squared squares V i j (hi, hj, other) = (half_of n g net i j rows (omega arith) (omega arith) other).masked_later
  full clock a inverse b sums clk factors squared squares Ux i j (hi, hj, other) = (half_of n g net i j rows (omega arith) (omega arith) other).kept
  full clock a inverse b sums clk factors squared squares U i j (hi, hj, other) = (half_of n g net i j rows (omega arith) (omega arith) other).kept_later
  full clock a inverse b sums clk factors squared squares Wx i j (hi, hj, other) = (half_of n g net i j rows (omega arith) (omega arith) other).crossed
  full clock a inverse b sums clk factors squared squares W i j (hi, hj, other) = (half_of n g net i j rows (omega arith) (omega arith) other).crossed_later
  full clock a inverse b sums clk factors squared squares S i m (hi, low, high) = sum_there i m hi low high
  full clock a inverse b sums clk factors squared squares C i j (le, none) = one_there C i j none (last_there i le)

-- one gadget more is whole
pub whole_more : (d m : ℕ) (wires : List Wire) (given : ℕ) (bits : List ℕ) → Rules d m wires given bits → ((kind : PartKind) (i j : ℕ) → HasNumbers d kind i j → (w : ℕ) × IsPartWire d wires (part m kind i j) w)
    → Rules d (m + 1) wires given bits
whole_more d m wires given bits rules has = record {
  ruled = rules.ruled;
  whole = λ g lt kind i j numbers. elim (cases_eq g m) [
    | inl same ↦ subst (λ q. (w : ℕ) × IsPartWire d wires (part q kind i j) w) (sym same) (has kind i j numbers)
    | inr other ↦ (let differs = other in rules.whole g (omega arith) kind i j numbers)
  ];
  reader = rules.reader;
  within = rules.within;
  pairs = rules.pairs;
  reads = rules.reads;
  others = rules.others;
}
