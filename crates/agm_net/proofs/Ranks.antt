-- The wires of a net without a loop have ranks: a chain of as many reads as there are wires meets a wire twice.
use Rattle.std.proofs.Common.{◌≡◌, ◌<◌, ◌≤◌, ◌+◌, ◌==◌, ◌&&◌, ℕ, zero, suc, Bool, true, false, cond, List, [], ◌∷◌, length, IsTrue, refl, sym, ap, subst, inl, inr, arith, eq-eqb, eqb}
use Rattle.std.specs.List.{AllByRecursion, list_any, range_with_len, IsDistinct}
use Rattle.std.proofs.lemmas.Bool.{eqb-true, or_cases, or_left, or_right, and_parts, and_from, cases_Bool, cases_eq, both_ways, false_from_ne_true}
use Rattle.std.proofs.lemmas.Map.Steps.{length-le_from_distinct_below}
use Rattle.agm_net.specs.Formula.{stands, reads_below}
use Rattle.agm_net.specs.Plain.{Line, PlainNet}
use Rattle.agm_net.specs.Loop.{reads, IsChain, last_of, HasNoLoop, IsRanked}
use Rattle.agm_net.specs.WellFormed.{WellFormed}
use Rattle.agm_net.proofs.Formulas.{reads_are_below}
use Rattle.agm_net.proofs.Lists.{all_of_one, place_of_any}
use Rattle.agm_net.proofs.Wires.{lines_fit}

-- along a chain, ranks fall
pub chain_falls : (rank : ℕ → ℕ) (related : ℕ → ℕ → Bool) → ((w v : ℕ) → IsTrue (related w v) → rank v < rank w) → (w : ℕ) (ws : List ℕ) → IsChain related w ws → rank (last_of w ws) ≤ rank w
chain_falls rank related falls w [] c = omega arith
chain_falls rank related falls w (v ∷ vs) c =
    let one = falls w v c.0 in
    let rest = chain_falls rank related falls v vs c.1 in omega arith

-- so ranks that fall with each read leave no loop
pub no_loop : (net : PlainNet) (rank : ℕ → ℕ) → ((w v : ℕ) → IsTrue (reads net w v) → rank v < rank w) → HasNoLoop net
no_loop net rank falls [] is = is
no_loop net rank falls (w ∷ ws) is =
    let down = chain_falls rank (reads net) falls w ws is.0 in
    let back = falls (last_of w ws) w is.1 in
    omega arith

-- a wire that a chain from u comes to is read by some wire of it
comes_to : (related : ℕ → ℕ → Bool) (u w : ℕ) (vs : List ℕ) → IsChain related u vs → IsTrue (list_any (λ v. v == w) vs) → (ps : List ℕ) × IsChain related u ps × IsTrue (related (last_of u ps) w)
comes_to related u w [] c found = absurd (let no : false ≡ true = found in cc)
comes_to related u w (v ∷ vs) c found =
    elim (or_cases (v == w) (list_any (λ x. x == w) vs) found) [
      | inl here ↦ ([], tt, subst (λ x. IsTrue (related u x)) (eqb-true v w here) c.0)
      | inr there ↦ (let rest = comes_to related v w vs c.1 there in (v ∷ rest.0, (c.0, rest.1), rest.2))
    ]

-- without a loop the wires of a chain differ
chain_differs : (net : PlainNet) (w : ℕ) (vs : List ℕ) → HasNoLoop net → IsChain (reads net) w vs → IsDistinct eqb (w ∷ vs)
unfolding IsDistinct
chain_differs net w [] none c = (tt, tt)
chain_differs net w (v ∷ vs) none c =
    let alone : list_any (λ x. x == w) (v ∷ vs) ≡ false = false_from_ne_true (list_any (λ x. x == w) (v ∷ vs)) (λ found.
    let loop = comes_to (reads net) w w (v ∷ vs) c found in none (w ∷ loop.0) (loop.1, loop.2)) in
    (apart (v ∷ vs) alone, chain_differs net v vs none c.1)
  where
    apart : (xs : List ℕ) → list_any (λ x. x == w) xs ≡ false → AllByRecursion (λ y. eqb w y ≡ false) xs
    apart [] h = tt
    apart (x ∷ xs) h = (
      false_from_ne_true (eqb w x) (λ e. both_ways (list_any (λ y. y == w) (x ∷ xs)) h (or_left (x == w) (list_any (λ y. y == w) xs) (eq-eqb x w (sym (eqb-true w x e))))),
      apart xs (false_from_ne_true (list_any (λ y. y == w) xs) (λ e. both_ways (list_any (λ y. y == w) (x ∷ xs)) h (or_right (x == w) (list_any (λ y. y == w) xs) e))),
    )

member_below : (n q : ℕ) (xs : List ℕ) → AllByRecursion (λ x. x < n) xs → list_any (eqb q) xs ≡ true → q < n
member_below n q [] h found = absurd (let no : false ≡ true = found in cc)
member_below n q (x ∷ xs) h found =
    elim (or_cases (eqb q x) (list_any (eqb q) xs) found) [
      | inl here ↦ subst (λ k. k < n) (sym (eqb-true q x here)) h.0
      | inr there ↦ member_below n q xs h.1 there
    ]

no_long_chain : (net : PlainNet) (n w : ℕ) (vs : List ℕ) → HasNoLoop net → IsChain (reads net) w vs → AllByRecursion (λ v. v < n) (w ∷ vs) → length vs < n
no_long_chain net n w vs none c below =
    let most = length-le_from_distinct_below (w ∷ vs) n (chain_differs net w vs none c) (λ q found. member_below n q (w ∷ vs) below found) in omega arith

-- a number in a row that passes a test
found_at : (test : ℕ → Bool) (a n : ℕ) → IsTrue (list_any test (range_with_len a n)) → (v : ℕ) × (v < a + n) × IsTrue (test v)
found_at test a zero h = absurd (let no : false ≡ true = h in cc)
found_at test a (suc n) h =
    elim (or_cases (test a) (list_any test (range_with_len (a + 1) n)) h) [
      | inl here ↦ (a, omega arith, here)
      | inr there ↦ (let rest = found_at test (a + 1) n there in let lt = rest.1 in (rest.0, omega (arith, lt), rest.2))
    ]

passes_in : (test : ℕ → Bool) (i a n : ℕ) → a ≤ i → i < a + n → IsTrue (test i) → IsTrue (list_any test (range_with_len a n))
passes_in test i a zero le lt h = absurd (omega arith)
passes_in test i a (suc n) le lt h =
    elim (cases_eq a i) [
      | inl same ↦ or_left (test a) (list_any test (range_with_len (a + 1) n)) (subst (λ k. IsTrue (test k)) (sym same) h)
      | inr other ↦ or_right (test a) (list_any test (range_with_len (a + 1) n)) (passes_in test i (a + 1) n (omega (arith, other)) (omega arith) h)
    ]

module _ (net : PlainNet) (well : WellFormed net) where
  -- what reads and what is read are wires
  pub reads_within : (w v : ℕ) → IsTrue (reads net w v) → (w < length net.wires) × (v < length net.wires)
  reads_within w v read =
      let found = place_of_any (λ (l : Line). (l.0 == w) && stands v l.1) net.lines read in
      let fit = all_of_one (λ (l : Line). (l.0 < length net.wires) × IsTrue (reads_below (length net.wires) l.1)) net.lines found.0 found.1 (lines_fit net well) found.2 in
      let both = and_parts (found.1.0 == w) (stands v found.1.1) found.3 in
      (subst (λ u. u < length net.wires) (eqb-true found.1.0 w both.0) fit.0, reads_are_below (length net.wires) found.1.1 fit.1 v both.1)

  -- whether n reads lead on from a wire
  abbrev deep : ℕ → ℕ → Bool
  deep zero w = true
  deep (suc n) w = list_any (λ u. reads net w u && deep n u) (range_with_len 0 (length net.wires))

  chain_of : (n w : ℕ) → IsTrue (deep n w) → (vs : List ℕ) × (length vs ≡ n) × IsChain (reads net) w vs × AllByRecursion (λ v. v < length net.wires) vs
  chain_of zero w e = ([], refl, tt, tt)
  chain_of (suc n) w e =
      let found = found_at (λ u. reads net w u && deep n u) 0 (length net.wires) e in
      let lt = found.1 in
      let both = and_parts (reads net w found.0) (deep n found.0) found.2 in
      let rest = chain_of n found.0 both.1 in
      (found.0 ∷ rest.0, ap suc rest.1, (both.0, rest.2), (omega (arith, lt), rest.3))

  -- the greatest n up to m at which a wire is deep
  abbrev height : ℕ → ℕ → ℕ
  height zero w = 0
  height (suc m) w = cond (deep (suc m) w) (suc m) (height m w)

  height_deep : (m w : ℕ) → IsTrue (deep (height m w) w)
  height_deep zero w = refl
  height_deep (suc m) w = elim (cases_Bool (deep (suc m) w)) [ inl is ↦ rw is is | inr apart ↦ rw apart (height_deep m w) ]

  height_low : (m w : ℕ) → height m w ≤ m
  height_low zero w = omega arith
  height_low (suc m) w = elim (cases_Bool (deep (suc m) w)) [ inl is ↦ rw is (omega arith) | inr apart ↦ rw apart (let less = height_low m w in omega arith) ]

  height_high : (m n w : ℕ) → n ≤ m → IsTrue (deep n w) → n ≤ height m w
  height_high zero n w le e = omega arith
  height_high (suc m) n w le e =
      elim (cases_Bool (deep (suc m) w)) [
        | inl is ↦ rw is (omega arith)
        | inr apart ↦ rw apart (elim (cases_eq n (suc m)) [
          | inl same ↦ absurd (both_ways (deep (suc m) w) apart (subst (λ k. IsTrue (deep k w)) same e))
          | inr other ↦ height_high m n w (omega (arith, le, other)) e
        ])
      ]

  not_deep : HasNoLoop net → (w : ℕ) → w < length net.wires → deep (length net.wires) w ≡ false
  not_deep none w small =
      false_from_ne_true (deep (length net.wires) w) (λ e.
      let chain = chain_of (length net.wires) w e in
      let long = chain.1 in
      let short = no_long_chain net (length net.wires) w chain.0 none chain.2 (small, chain.3) in omega (arith, long, short))

  lies_low : HasNoLoop net → (w : ℕ) → w < length net.wires → height (length net.wires) w < length net.wires
  lies_low none w small =
      let most = height_low (length net.wires) w in
      elim (cases_eq (height (length net.wires) w) (length net.wires)) [
        | inl same ↦ absurd (both_ways (deep (length net.wires) w) (not_deep none w small) (subst (λ k. IsTrue (deep k w)) same (height_deep (length net.wires) w)))
        | inr other ↦ omega (arith, most, other)
      ]

  -- wires are ranked by how many reads lead on from them
  pub ranked : HasNoLoop net → IsRanked net
  ranked none = record {
    rank = height (length net.wires);
    few = lies_low none;
    lower = λ w v read.
        let fit = reads_within w v read in
        let below = fit.1 in
        let low = lies_low none v below in
        let up : IsTrue (deep (suc (height (length net.wires) v)) w) = passes_in (λ u. reads net w u && deep (height (length net.wires) v) u) v 0 (length net.wires) (omega arith) (omega (arith, below))
        (and_from (reads net w v) (deep (height (length net.wires) v) v) read (height_deep (length net.wires) v)) in
        let high = height_high (length net.wires) (suc (height (length net.wires) v)) w (omega (arith, low)) up in
        omega (arith, high);
  }
