-- Permitted indices are at most the order, so that those listed have them all.
use Rattle.std.proofs.Common.{◌≡◌, ◌≢◌, ◌<◌, ◌≤◌, ◌+◌, ◌-◌, ◌||◌, ℕ, zero, suc, nat_eq, Bool, true, false, cond, IsTrue, List, [], ◌∷◌, Some, None, filter, length, refl, sym, ap, ◌∙◌, subst, arith, inl, inr, eqb-true, eq-eqb, true≢false}
use Rattle.std.proofs.lemmas.Bool.{cases_Bool, or_cases}
use Rattle.std.specs.List.{All, range_with_len}
use Rattle.agm_net.specs.Label.{HasLabel, HasNumbers, is_inner_kind, is_share_kind}
use Rattle.agm_net.specs.Plain.{PlainNet}
use Rattle.agm_net.specs.declared.label.Label.{Label}
use Rattle.agm_net.specs.declared.label.Label.TheVariants.{Clock, Public, Random, Share, Inner as InnerPart}
use Rattle.agm_net.specs.declared.label.Part.{Part}
use Rattle.agm_net.specs.declared.label.PartKind.{PartKind}
use Rattle.agm_net.specs.declared.label.PartKind.TheVariants.{A as KA, B as KB, R, Rr, Bb, Vx, V, Na, Ux, U, Wx, W, Mx, M, S, C}
use Rattle.probe_cones.specs.declared.probe.Probe.{Probe}
use Rattle.twin_tape.specs.Allowed.{allowed}
use Rattle.twin_tape.specs.Permitted.{AreLabels, begun, grown, has, inner_sight, permitted, sight, sights, taken, with}
use Rattle.twin_tape.specs.declared.sight.Sight.{Sight}
use Rattle.twin_tape.specs.declared.sight.Sight.TheVariants.{Nobody, One as One', Inner}

-- all of some indices are at most d, and so are those of a sight
abbrev Below : ℕ → List ℕ → Type 0
Below d K = (k : ℕ) → has K k ≡ true → k ≤ d

abbrev IsLow : ℕ → Sight → Type 0
IsLow d Nobody = Unit {0}
IsLow d (One' i) = i ≤ d
IsLow d (Inner g i j s home) = (i ≤ d) × (j ≤ d) × (home ≤ d)

below_cons : (d i : ℕ) (K : List ℕ) → i ≤ d → Below d K → Below d (i ∷ K)
below_cons d i K le below k h = elim (or_cases (nat_eq k i) (has K k) h) [
  | inl same ↦ (let e = eqb-true k i same in omega (arith, e, le))
  | inr old ↦ below k old
]

below_cond : (d : ℕ) (b : Bool) (K L : List ℕ) → Below d K → Below d L → Below d (cond b K L)
below_cond d true K L x y = x
below_cond d false K L x y = y

below_with : (d i : ℕ) (K : List ℕ) → i ≤ d → Below d K → Below d (with i K)
below_with d i K le below = below_cond d (has K i) K (i ∷ K) below (below_cons d i K le below)

low_other : (d : ℕ) (b : Bool) (i j : ℕ) → i ≤ d → j ≤ d → cond b j i ≤ d
low_other d true i j x y = y
low_other d false i j x y = x

grown_below : (d : ℕ) (ss : List Sight) (stage : ℕ) (K : List ℕ) → All (IsLow d) ss → Below d K → Below d (grown ss stage K)
grown_below d [] stage K all below = below
grown_below d (Nobody ∷ ss) stage K all below = grown_below d ss stage K (λ m e lt. all (suc m) e (omega (arith, lt))) below
grown_below d (One' i ∷ ss) stage K all below = grown_below d ss stage K (λ m e lt. all (suc m) e (omega (arith, lt))) below
grown_below d (Inner g i j s home ∷ ss) stage K all below =
    let low = all 0 Nobody (omega arith) in
    let other = cond (nat_eq home i) j i in
    grown_below d ss stage (cond (nat_eq s stage) (cond (has K home) (with other K) (home ∷ K)) K) (λ m e lt. all (suc m) e (omega (arith, lt)))
    (below_cond d (nat_eq s stage) (cond (has K home) (with other K) (home ∷ K)) K
    (below_cond d (has K home) (with other K) (home ∷ K) (below_with d other K (low_other d (nat_eq home i) i j low.0 low.1) below) (below_cons d home K low.2 below)) below)

begun_below : (d : ℕ) (ss : List Sight) (A : List ℕ) → All (IsLow d) ss → Below d A → Below d (begun ss A)
begun_below d [] A all below = below
begun_below d (Nobody ∷ ss) A all below = begun_below d ss A (λ m e lt. all (suc m) e (omega (arith, lt))) below
begun_below d (One' i ∷ ss) A all below = below_with d i (begun ss A) (all 0 Nobody (omega arith)) (begun_below d ss A (λ m e lt. all (suc m) e (omega (arith, lt))) below)
begun_below d (Inner g i j s home ∷ ss) A all below = begun_below d ss A (λ m e lt. all (suc m) e (omega (arith, lt))) below

taken_below : (d : ℕ) (ss : List Sight) (A : List ℕ) (top n : ℕ) → All (IsLow d) ss → Below d A → Below d (taken ss A top n)
taken_below d ss A top zero all below = begun_below d ss A all below
taken_below d ss A top (suc n) all below = grown_below d ss (top - n) (taken ss A top n) all (taken_below d ss A top n all below)

-- the numbers of parts are at most the order
inner_low : (d : ℕ) (k : PartKind) (p : Part) (t : ℕ) → IsTrue (is_inner_kind k) → HasNumbers d k p.i p.j → IsLow d (inner_sight k p t)
inner_low d R p t h n = (omega (arith, n.0, n.1), n.1, omega (arith, n.0, n.1))
inner_low d Rr p t h n = (omega (arith, n.0, n.1), n.1, omega (arith, n.0, n.1))
inner_low d Vx p t h n = (omega (arith, n.0, n.1), omega (arith, n.0, n.1), n.1)
inner_low d V p t h n = (omega (arith, n.0, n.1), omega (arith, n.0, n.1), n.0)
inner_low d Ux p t h n = (omega (arith, n.0, n.1), omega (arith, n.0, n.1), n.0)
inner_low d Wx p t h n = (omega (arith, n.0, n.1), omega (arith, n.0, n.1), n.0)
inner_low d _ p t h n = absurd (true≢false (sym h))

share_low : (d : ℕ) (k : PartKind) (i j : ℕ) → IsTrue (is_share_kind k) → HasNumbers d k i j → i ≤ d
share_low d KA i j h n = n.0
share_low d KB i j h n = n.0
share_low d Bb i j h n = n.0
share_low d Na i j h n = n.0
share_low d U i j h n = n.0
share_low d W i j h n = n.0
share_low d Mx i j h n = n.0
share_low d M i j h n = n.0
share_low d S i j h n = n.0
share_low d C i j h n = n.0
share_low d _ i j h n = absurd (true≢false (sym h))

sight_low : (net : PlainNet) (d w : ℕ) (l : Label) (t : ℕ) → HasLabel net d w l → IsLow d (sight l t)
sight_low net d w Clock t h = tt
sight_low net d w Public t h = tt
sight_low net d w (Random g i j) t h = let n = h.1.1.0 in (omega (arith, n.0, n.1), n.1, omega (arith, n.0, n.1))
sight_low net d w (Share i None) t h = h.0
sight_low net d w (Share i (Some p)) t h = let low = share_low d p.kind p.i p.j h.0 h.2.0 in let e = h.1 in omega (arith, low, e)
sight_low net d w (InnerPart p) t h = inner_low d p.kind p t h.0 h.1.0

sights_low : (net : PlainNet) (d : ℕ) (label : ℕ → Label) → AreLabels net d label → (ps : List Probe) → All (λ p. p.wire < length net.wires) ps → All (IsLow d) (sights label ps)
sights_low net d label labels [] all m e lt = absurd (omega (arith, lt))
sights_low net d label labels (p ∷ ps) all zero e lt = sight_low net d p.wire (label p.wire) p.cycle (labels p.wire (all 0 p (omega arith)))
sights_low net d label labels (p ∷ ps) all (suc m) e lt = sights_low net d label labels ps (λ n f h. all (suc n) f (omega (arith, h))) m e (omega (arith, lt))

below_listed : (d : ℕ) (A : List ℕ) → All (λ i. i ≤ d) A → Below d A
below_listed d [] all = λ k h. absurd (true≢false (sym h))
below_listed d (i ∷ A) all = below_cons d i A (all 0 i (omega arith)) (below_listed d A (λ m e lt. all (suc m) e (omega (arith, lt))))

-- what passes a test and is in a range is in the filtered range
in_range : (p : ℕ → Bool) (i a n : ℕ) → a ≤ i → i < a + n → p i ≡ true → has (filter p (range_with_len a n)) i ≡ true
in_range p i a zero low high h = absurd (omega (arith, low, high))
in_range p i a (suc n) low high h = elim (cases_Bool (nat_eq i a)) [
  | inl same ↦ first (p a) (subst (λ k. p k ≡ true) (eqb-true i a same) h) same
  | inr differs ↦ later (p a) (in_range p i (a + 1) n (past differs) (omega (arith, high)) h)
]
  where
    first : (b : Bool) → b ≡ true → nat_eq i a ≡ true → has (cond b (a ∷ filter p (range_with_len (a + 1) n)) (filter p (range_with_len (a + 1) n))) i ≡ true
    first true e same = ap (λ c. c || has (filter p (range_with_len (a + 1) n)) i) same
    first false e same = absurd (true≢false (sym e))

    later : (b : Bool) → has (filter p (range_with_len (a + 1) n)) i ≡ true → has (cond b (a ∷ filter p (range_with_len (a + 1) n)) (filter p (range_with_len (a + 1) n))) i ≡ true
    later true e = go (nat_eq i a) e
      where
        go : (c : Bool) → has (filter p (range_with_len (a + 1) n)) i ≡ true → (c || has (filter p (range_with_len (a + 1) n)) i) ≡ true
        go true e = refl
        go false e = e
    later false e = e

    past : nat_eq i a ≡ false → a + 1 ≤ i
    past differs = let ne : i ≢ a = λ same. absurd (true≢false (sym (eq-eqb i a same) ∙ differs)) in omega (arith, ne, low)

pub allowed_has : (net : PlainNet) (d : ℕ) (label : ℕ → Label) → AreLabels net d label → (T : ℕ) (ps : List Probe) (A : List ℕ) → All (λ p. p.wire < length net.wires) ps → All (λ i. i ≤ d) A
    → (i : ℕ) → IsTrue (has (permitted (sights label ps) A T) i) → IsTrue (has (allowed d label ps A T) i)
allowed_has net d label labels T ps A wires listed i h =
    let low : i ≤ d = taken_below d (sights label ps) A T (suc T - 0) (sights_low net d label labels ps wires) (below_listed d A listed) i h in
    in_range (has (permitted (sights label ps) A T)) i 0 (d + 1) (omega arith) (omega (arith, low)) h
