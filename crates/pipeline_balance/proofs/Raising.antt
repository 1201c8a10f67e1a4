-- Levels that are raised as far as they are read.
use Rattle.std.proofs.Common.{◌≡◌, ◌≢◌, ◌<◌, ◌≤◌, ◌+◌, ◌-◌, ◌&&◌, ℕ, Bool, true, false, cond, nat_lt, List, [], ◌∷◌, max, length, slice_get, Some, IsTrue, refl, sym, ap, subst, inl, inr, ◌∙◌, arith}
use Rattle.std.specs.List.{AllByRecursion}
use Rattle.std.proofs.lemmas.Bool.{cases_eq, cases_lt, and_parts, and_from, ltb-true}
use Rattle.share_wiring.proofs.Grown.{lt_more}
use Rattle.std.proofs.lemmas.List.{get_or-set_same, get_or-set_other, length-set, set_past}
use Rattle.std.proofs.lemmas.Option.{slice_get_within}
use Rattle.logic_graph.specs.Nodes.{xan_reads_before}
use Rattle.logic_graph.specs.declared.nodes.XanNode.{XanNode}
use Rattle.logic_graph.specs.declared.nodes.XanNode.TheVariants.{Zero, One, Input, Q, Not, Xor, And}
use Rattle.pipeline_balance.specs.Piped.{node_at}
use Rattle.pipeline_balance.specs.Reaching.{flag_at, reads_of, raised, raised_by, AreReached, AreRaised}

raised_length : (xs : List ℕ) (a q : ℕ) → length (raised xs a q) ≡ length xs
raised_length xs a q = length-set xs a (max (node_at xs a) q)

raised_here : (xs : List ℕ) (a q : ℕ) → a < length xs → node_at (raised xs a q) a ≡ max (node_at xs a) q
raised_here xs a q lt = get_or-set_same xs a (max (node_at xs a) q) 0 lt

raised_other : (xs : List ℕ) (a q j : ℕ) → j ≢ a → node_at (raised xs a q) j ≡ node_at xs j
raised_other xs a q j other = get_or-set_other xs a j (max (node_at xs a) q) 0 other

one_grows : (xs : List ℕ) (a q j : ℕ) → node_at xs j ≤ node_at (raised xs a q) j
one_grows xs a q j =
    elim (cases_eq j a) [
      | inl same ↦ elim (cases_lt a (length xs)) [
        | inl lt ↦ subst (λ k. node_at xs k ≤ node_at (raised xs a q) k) (sym same) (let here = raised_here xs a q lt in omega (arith, here))
        | inr past ↦ (let e = ap (λ ys. node_at ys j) (set_past xs a (max (node_at xs a) q) past) in omega (arith, e))
      ]
      | inr other ↦ (let e = raised_other xs a q j other in omega (arith, e))
    ]

one_bound : (xs : List ℕ) (a q : ℕ) (f : ℕ → ℕ) → ((j : ℕ) → node_at xs j ≤ f j) → q ≤ f a → (j : ℕ) → node_at (raised xs a q) j ≤ f j
one_bound xs a q f before here j =
    elim (cases_eq j a) [
      | inl same ↦ elim (cases_lt a (length xs)) [
        | inl lt ↦ subst (λ k. node_at (raised xs a q) k ≤ f k) (sym same) (let e = raised_here xs a q lt in let b = before a in omega (arith, e, b, here))
        | inr past ↦ (let e = ap (λ ys. node_at ys j) (set_past xs a (max (node_at xs a) q) past) in let b = before j in omega (arith, e, b))
      ]
      | inr other ↦ (let e = raised_other xs a q j other in let b = before j in omega (arith, e, b))
    ]

pub all_length : (xs : List ℕ) (rs : List (ℕ × ℕ)) → length (raised_by xs rs) ≡ length xs
all_length xs [] = refl
all_length xs (r ∷ rs) = all_length (raised xs r.0 r.1) rs ∙ raised_length xs r.0 r.1

pub all_grow : (xs : List ℕ) (rs : List (ℕ × ℕ)) (j : ℕ) → node_at xs j ≤ node_at (raised_by xs rs) j
all_grow xs [] j = omega arith
all_grow xs (r ∷ rs) j = let a = one_grows xs r.0 r.1 j in let b = all_grow (raised xs r.0 r.1) rs j in omega (arith, a, b)

pub all_bound : (xs : List ℕ) (rs : List (ℕ × ℕ)) (f : ℕ → ℕ) → ((j : ℕ) → node_at xs j ≤ f j) → AllByRecursion (λ r. r.1 ≤ f r.0) rs → (j : ℕ) → node_at (raised_by xs rs) j ≤ f j
all_bound xs [] f before here j = before j
all_bound xs (r ∷ rs) f before here j = all_bound (raised xs r.0 r.1) rs f (one_bound xs r.0 r.1 f before here.0) here.1 j

pub all_cover : (xs : List ℕ) (rs : List (ℕ × ℕ)) → AllByRecursion (λ r. r.0 < length xs) rs → AllByRecursion (λ r. r.1 ≤ node_at (raised_by xs rs) r.0) rs
all_cover xs [] within = tt
all_cover xs (r ∷ rs) within =
    let here = raised_here xs r.0 r.1 within.0 in
    let later = all_grow (raised xs r.0 r.1) rs r.0 in
    (omega (arith, here, later), all_cover (raised xs r.0 r.1) rs (within_still xs r.0 r.1 rs within.1))
  where
    within_still : (ys : List ℕ) (a q : ℕ) (ss : List (ℕ × ℕ)) → AllByRecursion (λ s. s.0 < length ys) ss → AllByRecursion (λ s. s.0 < length (raised ys a q)) ss
    within_still ys a q ss h = subst (λ m. AllByRecursion (λ s. s.0 < m) ss) (sym (raised_length ys a q)) h

-- ---- the loops

-- operands that stand before are in range
reads_within : (secret : ℕ → Bool) (late : Bool) (level k m : ℕ) (n : XanNode) → k ≤ m → IsTrue (xan_reads_before k n) → AllByRecursion (λ r. r.0 < m) (reads_of secret late level n)
reads_within secret late level k m Zero le h = tt
reads_within secret late level k m One le h = tt
reads_within secret late level k m (Input i) le h = tt
reads_within secret late level k m (Q r) le h = tt
reads_within secret late level k m (Not a) le h = tt
reads_within secret late level k m (Xor a b) le h =
    let both = and_parts (nat_lt a k) (nat_lt b k) h in
    let la = ltb-true a k both.0 in
    let lb = ltb-true b k both.1 in
    (omega (arith, la, le), (omega (arith, lb, le), tt))
reads_within secret late level k m (And a b) le h =
    let both = and_parts (nat_lt a k) (nat_lt b k) h in
    let la = ltb-true a k both.0 in
    let lb = ltb-true b k both.1 in
    two (secret a && secret b) late a b (omega (arith, la, le)) (omega (arith, lb, le))
  where
    two : (s l : Bool) (x y : ℕ) → x < m → y < m → AllByRecursion (λ (r : ℕ × ℕ). r.0 < m) (cond s ((cond l x y, level - 1) ∷ (cond l y x, level - 2) ∷ []) ((x, level) ∷ (y, level) ∷ []))
    two true true x y p q = (p, (q, tt))
    two true false x y p q = (q, (p, tt))
    two false l x y p q = (p, (q, tt))

-- what was covered stays so
still_covered : (xs ys : List ℕ) → ((j : ℕ) → node_at xs j ≤ node_at ys j) → (rs : List (ℕ × ℕ)) → AllByRecursion (λ r. r.1 ≤ node_at xs r.0) rs → AllByRecursion (λ r. r.1 ≤ node_at ys r.0) rs
still_covered xs ys grow [] h = tt
still_covered xs ys grow (r ∷ rs) h = (let g = grow r.0 in let a = h.0 in omega (arith, g, a), still_covered xs ys grow rs h.1)

module _ (nodes : List XanNode) (sinks : List ℕ) (secret : List Bool) (levels : List ℕ) (late_first : List Bool) (depth : ℕ) where
  pub raising_begins : (xs : List ℕ) → length levels ≡ length nodes → xs ≡ levels → AreRaised nodes sinks secret levels late_first depth 0 0 xs
  raising_begins xs each e =
      subst (λ ys. AreRaised nodes sinks secret levels late_first depth 0 0 ys) (sym e)
      (record { count = each; begins = λ i. omega arith; reads = λ i n lt. absurd (omega arith); ends = λ i lt. absurd (omega arith); least = λ last reached i. reached.begins i })

  pub node_raised : (k j : ℕ) (xs ys : List ℕ) (n : XanNode) → k < length nodes → IsTrue (xan_reads_before k n) → slice_get nodes k ≡ Some n
      → ys ≡ raised_by xs (reads_of (flag_at secret) (flag_at late_first k) (node_at levels k) n) → AreRaised nodes sinks secret levels late_first depth k j xs → AreRaised nodes sinks secret levels late_first depth (k + 1) j ys
  node_raised k j xs ys n lt before at e raise =
      let rs = reads_of (flag_at secret) (flag_at late_first k) (node_at levels k) n in
      let count = raise.count in
      let grow : (i : ℕ) → node_at xs i ≤ node_at (raised_by xs rs) i = all_grow xs rs in
      subst (λ zs. AreRaised nodes sinks secret levels late_first depth (k + 1) j zs) (sym e)
      (record {
        count = all_length xs rs ∙ count;
        begins = λ i. (let a = raise.begins i in let g = grow i in omega (arith, a, g));
        reads = λ i m below here. elim (cases_lt i k) [
          | inl old ↦ still_covered xs (raised_by xs rs) grow (reads_of (flag_at secret) (flag_at late_first i) (node_at levels i) m) (raise.reads i m old here)
          | inr new ↦ (
              let is : i ≡ k = omega (arith, below, new) in
              let same : n ≡ m = (let there : slice_get nodes k ≡ Some m = ap (slice_get nodes) (sym is) ∙ here in cc) in
              let cover = all_cover xs rs (reads_within (flag_at secret) (flag_at late_first k) (node_at levels k) k (length xs) n (omega (arith, lt, count)) before) in
              subst (λ q. AllByRecursion (λ r. r.1 ≤ node_at (raised_by xs rs) r.0) (reads_of (flag_at secret) (flag_at late_first q) (node_at levels q) m)) (sym is)
              (subst (λ x. AllByRecursion (λ r. r.1 ≤ node_at (raised_by xs rs) r.0) (reads_of (flag_at secret) (flag_at late_first k) (node_at levels k) x)) same cover))
        ];
        ends = λ i below. (let a = raise.ends i below in let g = grow (node_at sinks i) in omega (arith, a, g));
        least = λ last reached. all_bound xs rs last (raise.least last reached) (reached.reads k n at);
      })

  pub sink_raised : (k j : ℕ) (xs ys : List ℕ) → j < length sinks → node_at sinks j < length xs → ys ≡ raised xs (node_at sinks j) depth
      → AreRaised nodes sinks secret levels late_first depth k j xs → AreRaised nodes sinks secret levels late_first depth k (j + 1) ys
  sink_raised k j xs ys lt within e raise =
      let s = node_at sinks j in
      let grow : (i : ℕ) → node_at xs i ≤ node_at (raised xs s depth) i = one_grows xs s depth in
      subst (λ zs. AreRaised nodes sinks secret levels late_first depth k (j + 1) zs) (sym e)
      (record {
        count = raised_length xs s depth ∙ raise.count;
        begins = λ i. (let a = raise.begins i in let g = grow i in omega (arith, a, g));
        reads = λ i m below here. still_covered xs (raised xs s depth) grow (reads_of (flag_at secret) (flag_at late_first i) (node_at levels i) m) (raise.reads i m below here);
        ends = λ i below. elim (cases_lt i j) [
          | inl old ↦ (let a = raise.ends i old in let g = grow (node_at sinks i) in omega (arith, a, g))
          | inr new ↦ (let is : i ≡ j = omega (arith, below, new) in
              subst (λ q. depth ≤ node_at (raised xs s depth) (node_at sinks q)) (sym is) (let here = raised_here xs s depth within in omega (arith, here)))
        ];
        least = λ last reached. one_bound xs s depth last (raise.least last reached) (reached.ends j lt);
      })

  pub all_raised : (xs : List ℕ) → AreRaised nodes sinks secret levels late_first depth (length nodes) (length sinks) xs → AreReached nodes sinks secret levels late_first depth (node_at xs)
  all_raised xs raise = record { begins = raise.begins; reads = λ k n at. raise.reads k n (slice_get_within nodes k n at) at; ends = raise.ends }

-- operands before a number are before a greater one
pub reads_more : (k m : ℕ) (n : XanNode) → k ≤ m → IsTrue (xan_reads_before k n) → IsTrue (xan_reads_before m n)
reads_more k m Zero le h = h
reads_more k m One le h = h
reads_more k m (Input i) le h = h
reads_more k m (Q r) le h = h
reads_more k m (Not a) le h = lt_more a k m le h
reads_more k m (Xor a b) le h = let both = and_parts (nat_lt a k) (nat_lt b k) h in and_from (nat_lt a m) (nat_lt b m) (lt_more a k m le both.0) (lt_more b k m le both.1)
reads_more k m (And a b) le h = let both = and_parts (nat_lt a k) (nat_lt b k) h in and_from (nat_lt a m) (nat_lt b m) (lt_more a k m le both.0) (lt_more b k m le both.1)
