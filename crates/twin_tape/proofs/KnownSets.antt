-- The sets of indices that are to agree.
use Rattle.std.proofs.Common.{◌≡◌, ◌≢◌, ℕ, zero, suc, ◌-◌, ◌<◌, ◌≤◌, ◌⊎◌, Bool, true, false, ◌||◌, cond, List, [], ◌∷◌, length, slice_index_or, nat_eq, refl, sym, ap, ap₂, ◌∙◌, subst, inl, inr, ⊎_elim, arith, true≢false, eq-eqb, ne_eqb}
use Rattle.std.proofs.lemmas.Bool.{cases_lt, false_from_ne_true}
use Rattle.twin_tape.specs.Permitted.{begun, grown, has, known, taken, with}
use Rattle.twin_tape.specs.declared.sight.Sight.{Sight}
use Rattle.twin_tape.specs.declared.sight.Sight.TheVariants.{Inner, Nobody, One as One'}

or_right : (x y : Bool) → y ≡ true → (x || y) ≡ true
or_right x y e = grind arith

has_head : (i : ℕ) (K : List ℕ) → has (i ∷ K) i ≡ true
has_head i K = ap (λ b. b || has K i) (eq-eqb i i refl)

has_tail : (i k : ℕ) (K : List ℕ) → has K k ≡ true → has (i ∷ K) k ≡ true
has_tail i k K e = or_right (nat_eq k i) (has K k) e

has_with : (i : ℕ) (K : List ℕ) → has (with i K) i ≡ true
has_with i K = go (has K i) refl
  where
    go : (b : Bool) → has K i ≡ b → has (cond b K (i ∷ K)) i ≡ true
    go true e = e
    go false e = has_head i K

has_with_old : (i k : ℕ) (K : List ℕ) → has K k ≡ true → has (with i K) k ≡ true
has_with_old i k K old = go (has K i)
  where
    go : (b : Bool) → has (cond b K (i ∷ K)) k ≡ true
    go true = old
    go false = has_tail i k K old

-- one inner probe of the stage
abbrev other_of : ℕ → ℕ → ℕ → ℕ
other_of i j home = cond (nat_eq home i) j i

abbrev stepped : ℕ → ℕ → ℕ → List ℕ → List ℕ
stepped i j home K = cond (has K home) (with (other_of i j home) K) (home ∷ K)

stepped_old : (i j home k : ℕ) (K : List ℕ) → has K k ≡ true → has (stepped i j home K) k ≡ true
stepped_old i j home k K old = go (has K home)
  where
    go : (b : Bool) → has (cond b (with (other_of i j home) K) (home ∷ K)) k ≡ true
    go true = has_with_old (other_of i j home) k K old
    go false = has_tail home k K old

stepped_home : (i j home : ℕ) (K : List ℕ) → has (stepped i j home K) home ≡ true
stepped_home i j home K = go (has K home) refl
  where
    go : (b : Bool) → has K home ≡ b → has (cond b (with (other_of i j home) K) (home ∷ K)) home ≡ true
    go true e = has_with_old (other_of i j home) home K e
    go false e = has_head home K

-- home is one of the pair and o is the other one
abbrev pub Splits : ℕ → ℕ → ℕ → ℕ → Type 0
Splits i j home o = ((home ≡ i) × (o ≡ j)) ⊎ ((home ≡ j) × (o ≡ i))

other_is : (i j home o : ℕ) → i ≢ j → Splits i j home o → other_of i j home ≡ o
other_is i j home o ne (inl e) = ap (λ b. cond b j i) (eq-eqb home i e.0) ∙ sym e.1
other_is i j home o ne (inr e) = ap (λ b. cond b j i) (ne_eqb home i (λ h. ne (sym h ∙ e.0))) ∙ sym e.1

-- once one of the pair is in, a probe brings both in
stepped_both : (i j home o : ℕ) (K : List ℕ) → i ≢ j → Splits i j home o → (has K home ≡ true) ⊎ (has K o ≡ true) → has (stepped i j home K) o ≡ true
stepped_both i j home o K ne splits one = go (has K home) refl
  where
    go : (b : Bool) → has K home ≡ b → has (cond b (with (other_of i j home) K) (home ∷ K)) o ≡ true
    go true e = subst (λ k. has (with k K) o ≡ true) (sym (other_is i j home o ne splits)) (has_with o K)
    go false e = ⊎_elim (λ h. absurd (true≢false (sym h ∙ e))) (λ h. has_tail home o K h) one

pub grown_old : (sights : List Sight) (s k : ℕ) (K : List ℕ) → has K k ≡ true → has (grown sights s K) k ≡ true
grown_old [] s k K old = old
grown_old (Nobody ∷ sights) s k K old = grown_old sights s k K old
grown_old (One' i ∷ sights) s k K old = grown_old sights s k K old
grown_old (Inner g i j stage home ∷ sights) s k K old = grown_old sights s k (cond (nat_eq stage s) (stepped i j home K) K) (go (nat_eq stage s))
  where
    go : (b : Bool) → has (cond b (stepped i j home K) K) k ≡ true
    go true = stepped_old i j home k K old
    go false = old

abbrev pub At : List Sight → ℕ → Sight → Type 0
At sights m sight = (m < length sights) × (slice_index_or sights m Nobody ≡ sight)

-- what a probe of the stage at the head does
grown_here : (sights : List Sight) (head : Sight) (s g i j home : ℕ) (K : List ℕ) → head ≡ Inner g i j s home → grown (head ∷ sights) s K ≡ grown sights s (stepped i j home K)
grown_here sights head s g i j home K e = ap (λ σ. grown (σ ∷ sights) s K) e ∙ ap (λ b. grown sights s (cond b (stepped i j home K) K)) (eq-eqb s s refl)

-- the probes behind the head see a set that has what was there
grown_there : (sights : List Sight) (head : Sight) (s k : ℕ) (K : List ℕ) → (K' : List ℕ) × (grown (head ∷ sights) s K ≡ grown sights s K') × ((k : ℕ) → has K k ≡ true → has K' k ≡ true)
grown_there sights Nobody s k K = (K, refl, λ k old. old)
grown_there sights (One' i) s k K = (K, refl, λ k old. old)
grown_there sights (Inner g i j stage home) s k K =
    (cond (nat_eq stage s) (stepped i j home K) K, refl, λ k old. grown_old (Inner g i j stage home ∷ []) s k K old)

pub grown_home : (sights : List Sight) (s m g i j home : ℕ) (K : List ℕ) → At sights m (Inner g i j s home) → has (grown sights s K) home ≡ true
grown_home [] s m g i j home K at = absurd (omega arith)
grown_home (head ∷ sights) s zero g i j home K at =
    subst (λ L. has L home ≡ true) (sym (grown_here sights head s g i j home K at.1)) (grown_old sights s home (stepped i j home K) (stepped_home i j home K))
grown_home (head ∷ sights) s (suc m) g i j home K at =
    let rest = grown_there sights head s 0 K in
    subst (λ L. has L home ≡ true) (sym rest.1) (grown_home sights s m g i j home rest.0 (omega arith, at.1))

pub grown_both : (sights : List Sight) (s m g i j home o : ℕ) (K : List ℕ) → i ≢ j → Splits i j home o → (has K home ≡ true) ⊎ (has K o ≡ true) → At sights m (Inner g i j s home) → has (grown sights s K) o ≡ true
grown_both [] s m g i j home o K ne splits one at = absurd (omega arith)
grown_both (head ∷ sights) s zero g i j home o K ne splits one at =
    subst (λ L. has L o ≡ true) (sym (grown_here sights head s g i j home K at.1)) (grown_old sights s o (stepped i j home K) (stepped_both i j home o K ne splits one))
grown_both (head ∷ sights) s (suc m) g i j home o K ne splits one at =
    let rest = grown_there sights head s 0 K in
    subst (λ L. has L o ≡ true) (sym rest.1)
    (grown_both sights s m g i j home o rest.0 ne splits (⊎_elim (λ h. inl (rest.2 home h)) (λ h. inr (rest.2 o h)) one) (omega arith, at.1))

abbrev pub Both : List ℕ → ℕ → ℕ → Type 0
Both K i j = (has K i ≡ true) × (has K j ≡ true)

pub both_from : (K : List ℕ) (i j home o : ℕ) → Splits i j home o → has K home ≡ true → has K o ≡ true → Both K i j
both_from K i j home o (inl e) in_home in_o = (subst (λ k. has K k ≡ true) e.0 in_home, subst (λ k. has K k ≡ true) e.1 in_o)
both_from K i j home o (inr e) in_home in_o = (subst (λ k. has K k ≡ true) e.1 in_o, subst (λ k. has K k ≡ true) e.0 in_home)

-- two homes of one pair are the same, or one is the other of the other
one_of : (K : List ℕ) (i j home o home' o' : ℕ) → Splits i j home o → Splits i j home' o' → has K home ≡ true → (has K home' ≡ true) ⊎ (has K o' ≡ true)
one_of K i j home o home' o' (inl e) (inl f) h = inl (subst (λ k. has K k ≡ true) (e.0 ∙ sym f.0) h)
one_of K i j home o home' o' (inl e) (inr f) h = inr (subst (λ k. has K k ≡ true) (e.0 ∙ sym f.1) h)
one_of K i j home o home' o' (inr e) (inl f) h = inr (subst (λ k. has K k ≡ true) (e.0 ∙ sym f.1) h)
one_of K i j home o home' o' (inr e) (inr f) h = inl (subst (λ k. has K k ≡ true) (e.0 ∙ sym f.0) h)

-- two probes of one pair in one stage bring both in
pub grown_two : (sights : List Sight) (s m n g i j home o home' o' : ℕ) (K : List ℕ) → i ≢ j → Splits i j home o → Splits i j home' o' → m < n →
    At sights m (Inner g i j s home) → At sights n (Inner g i j s home') → Both (grown sights s K) i j
grown_two [] s m n g i j home o home' o' K ne sp sp' lt at at' = absurd (omega arith)
grown_two (head ∷ sights) s m zero g i j home o home' o' K ne sp sp' lt at at' = absurd (omega arith)
grown_two (head ∷ sights) s zero (suc n) g i j home o home' o' K ne sp sp' lt at at' =
    let K' = stepped i j home K in
    let later : At sights n (Inner g i j s home') = (omega arith, at'.1) in
    subst (λ L. Both L i j) (sym (grown_here sights head s g i j home K at.1))
    (both_from (grown sights s K') i j home' o' sp' (grown_home sights s n g i j home' K' later)
    (grown_both sights s n g i j home' o' K' ne sp' (one_of K' i j home o home' o' sp sp' (stepped_home i j home K)) later))
grown_two (head ∷ sights) s (suc m) (suc n) g i j home o home' o' K ne sp sp' lt at at' =
    let rest = grown_there sights head s 0 K in
    subst (λ L. Both L i j) (sym rest.1) (grown_two sights s m n g i j home o home' o' rest.0 ne sp sp' (omega arith) (omega arith, at.1) (omega arith, at'.1))

module _ (sights : List Sight) (A : List ℕ) (T : ℕ) where
  pub known_step : (c : ℕ) → c ≤ T → known sights A T c ≡ grown sights c (known sights A T (suc c))
  known_step c le =
      let e : suc T - c ≡ suc (T - c) = omega arith in
      let f : T - (T - c) ≡ c = omega arith in
      let h : T - c ≡ suc T - suc c = omega arith in
      ap (taken sights A T) e ∙ ap₂ (λ a b. grown sights a (taken sights A T b)) f h

  pub known_late : (c : ℕ) → T < c → known sights A T c ≡ begun sights A
  known_late c lt = let e : suc T - c ≡ 0 = omega arith in ap (taken sights A T) e

  pub known_older : (c i : ℕ) → has (known sights A T (suc c)) i ≡ true → has (known sights A T c) i ≡ true
  known_older c i h =
      ⊎_elim (λ (lt : T < c). subst (λ K. has K i ≡ true) (known_late (suc c) (omega arith) ∙ sym (known_late c lt)) h)
      (λ le. subst (λ K. has K i ≡ true) (sym (known_step c le)) (grown_old sights c i (known sights A T (suc c)) h)) (cases_lt T c)

  taken_old : (n i : ℕ) → has (begun sights A) i ≡ true → has (taken sights A T n) i ≡ true
  taken_old zero i h = h
  taken_old (suc n) i h = grown_old sights (T - n) i (taken sights A T n) (taken_old n i h)

  pub known_begun : (c i : ℕ) → has (begun sights A) i ≡ true → has (known sights A T c) i ≡ true
  known_begun c i h = taken_old (suc T - c) i h

  -- the home of an inner probe is in at its stage
  pub known_home : (s m g i j home : ℕ) → s ≤ T → At sights m (Inner g i j s home) → has (known sights A T s) home ≡ true
  known_home s m g i j home le at = subst (λ K. has K home ≡ true) (sym (known_step s le)) (grown_home sights s m g i j home (known sights A T (suc s)) at)

  -- Where an inner probe's pair has an index that isn't in at its stage, the home was not in later, and the probe is the pair's only one of the stage.
  pub not_later : (s m g i j home o : ℕ) → s ≤ T → i ≢ j → Splits i j home o → At sights m (Inner g i j s home) → has (known sights A T s) o ≡ false → has (known sights A T (suc s)) home ≡ false
  not_later s m g i j home o le ne splits at out =
      false_from_ne_true (has (known sights A T (suc s)) home)
      (λ h. true≢false (sym (subst (λ K. has K o ≡ true) (sym (known_step s le)) (grown_both sights s m g i j home o (known sights A T (suc s)) ne splits (inl h) at)) ∙ out))

  pub no_other : (s m n g i j home o home' o' : ℕ) → s ≤ T → i ≢ j → Splits i j home o → Splits i j home' o' → At sights m (Inner g i j s home) → has (known sights A T s) o ≡ false →
      m ≢ n → At sights n (Inner g i j s home') → Prim.⊥
  no_other s m n g i j home o home' o' le ne splits splits' at out apart at' =
      let K = known sights A T (suc s) in
      let both : Both (grown sights s K) i j =
      ⊎_elim (λ (lt : m < n). grown_two sights s m n g i j home o home' o' K ne splits splits' lt at at')
      (λ le. grown_two sights s n m g i j home' o' home o K ne splits' splits (omega arith) at' at) (cases_lt m n) in
      let out' : has (grown sights s K) o ≡ false = subst (λ L. has L o ≡ false) (known_step s le) out in
      ⊎_elim (λ e. true≢false (sym both.1 ∙ subst (λ k. has (grown sights s K) k ≡ false) e.1 out')) (λ e. true≢false (sym both.0 ∙ subst (λ k. has (grown sights s K) k ≡ false) e.1 out')) splits

-- plain probes and listed indices
pub begun_old : (sights : List Sight) (A : List ℕ) (i : ℕ) → has A i ≡ true → has (begun sights A) i ≡ true
begun_old [] A i h = h
begun_old (Nobody ∷ sights) A i h = begun_old sights A i h
begun_old (One' k ∷ sights) A i h = has_with_old k i (begun sights A) (begun_old sights A i h)
begun_old (Inner g a b s home ∷ sights) A i h = begun_old sights A i h

pub begun_plain : (sights : List Sight) (A : List ℕ) (m i : ℕ) → At sights m (One' i) → has (begun sights A) i ≡ true
begun_plain [] A m i at = absurd (omega arith)
begun_plain (head ∷ sights) A zero i at = subst (λ σ. has (begun (σ ∷ sights) A) i ≡ true) (sym at.1) (has_with i (begun sights A))
begun_plain (Nobody ∷ sights) A (suc m) i at = begun_plain sights A m i (omega arith, at.1)
begun_plain (One' k ∷ sights) A (suc m) i at = has_with_old k i (begun sights A) (begun_plain sights A m i (omega arith, at.1))
begun_plain (Inner g a b s home ∷ sights) A (suc m) i at = begun_plain sights A m i (omega arith, at.1)
