-- Stages without a probe are passed over, and the indices up to a number in ascending order.
use Rattle.std.proofs.Common.{◌≡◌, ◌≢◌, ◌<◌, ◌≤◌, ◌+◌, ◌-◌, ◌++◌, ℕ, zero, suc, nat_eq, Bool, false, cond, List, [], ◌∷◌, filter, refl, sym, ap, ◌∙◌, subst, arith, inl, inr, eqb-true}
use Rattle.std.proofs.lemmas.Bool.{cases_Bool, cases_lt, lt-ltb, le-ltb}
use Rattle.std.proofs.lemmas.List.Elements.{filter-append}
use Rattle.std.specs.List.{All, range_with_len}
use Rattle.agm_net.specs.declared.label.Label.{Label}
use Rattle.agm_net.specs.declared.label.Label.TheVariants.{Clock, Public, Random, Share, Inner as InnerPart}
use Rattle.agm_net.specs.declared.label.Part.{Part}
use Rattle.agm_net.specs.declared.label.PartKind.{PartKind}
use Rattle.agm_net.specs.declared.label.PartKind.TheVariants.{R, Rr, Vx}
use Rattle.probe_cones.specs.declared.probe.Probe.{Probe}
use Rattle.twin_tape.specs.Allowed.{latest, mark, stage_of}
use Rattle.twin_tape.specs.Permitted.{begun, grown, has, inner_sight, known, sight, sights, with}
use Rattle.twin_tape.specs.declared.sight.Sight.{Sight}
use Rattle.twin_tape.specs.declared.sight.Sight.TheVariants.{Nobody, One as One', Inner}
use Rattle.twin_tape.proofs.KnownSets.{known_late, known_step}

-- a sight that isn't taken at a stage
abbrev Away : ℕ → Sight → Type 0
Away k (Inner g i j s home) = s ≢ k
Away k _ = Unit {0}

differ : (s k : ℕ) → s ≢ k → nat_eq s k ≡ false
differ s k ne = elim (cases_Bool (nat_eq s k)) [ inl same ↦ absurd (ne (eqb-true s k same)) | inr other ↦ other ]

one_away : (s : Sight) (ss : List Sight) (k : ℕ) (K : List ℕ) → Away k s → grown (s ∷ ss) k K ≡ grown ss k K
one_away Nobody ss k K away = refl
one_away (One' i) ss k K away = refl
one_away (Inner g i j s home) ss k K away =
    ap (λ b. grown ss k (cond b (cond (has K home) (with (cond (nat_eq home i) j i) K) (home ∷ K)) K)) (differ s k away)

away_between : (s : Sight) (bound k : ℕ) → mark bound s ≤ k → k < bound → Away k s
away_between (Inner g i j s home) bound k le lt = elim (cases_lt s bound) [
  | inl below ↦ (λ same. let e : mark bound (Inner g i j s home) ≡ suc s = ap (λ b. cond b (suc s) 0) (lt-ltb s bound below) in absurd (omega (arith, e, le, same)))
  | inr past ↦ (λ same. absurd (omega (arith, past, same, lt)))
]
away_between Nobody bound k le lt = tt
away_between (One' i) bound k le lt = tt

away_past : (s : Sight) (T k : ℕ) → stage_of s ≤ T → T < k → Away k s
away_past (Inner g i j s home) T k le lt = λ same. absurd (omega (arith, le, lt, same))
away_past Nobody T k le lt = tt
away_past (One' i) T k le lt = tt

idle_between : (ss : List Sight) (bound k : ℕ) (K : List ℕ) → latest bound ss ≤ k → k < bound → grown ss k K ≡ K
idle_between [] bound k K le lt = refl
idle_between (s ∷ ss) bound k K le lt =
    one_away s ss k K (away_between s bound k (omega arith) lt) ∙ idle_between ss bound k K (omega arith) lt

pub idle_past : (ss : List Sight) (T k : ℕ) (K : List ℕ) → All (λ s. stage_of s ≤ T) ss → T < k → grown ss k K ≡ K
idle_past [] T k K all lt = refl
idle_past (s ∷ ss) T k K all lt =
    one_away s ss k K (away_past s T k (all 0 s (omega arith)) lt) ∙ idle_past ss T k K (λ m d h. all (suc m) d (omega arith)) lt

mark_within : (s : Sight) (bound : ℕ) → mark bound s ≤ bound
mark_within (Inner g i j s home) bound = elim (cases_lt s bound) [
  | inl below ↦ (let e : mark bound (Inner g i j s home) ≡ suc s = ap (λ b. cond b (suc s) 0) (lt-ltb s bound below) in omega (arith, e, below))
  | inr past ↦ (let e : mark bound (Inner g i j s home) ≡ 0 = ap (λ b. cond b (suc s) 0) (le-ltb s bound past) in omega (arith, e))
]
mark_within Nobody bound = omega arith
mark_within (One' i) bound = omega arith

pub latest_within : (ss : List Sight) (bound : ℕ) → latest bound ss ≤ bound
latest_within [] bound = omega arith
latest_within (s ∷ ss) bound = let a = mark_within s bound in let b = latest_within ss bound in omega (arith, a, b)

module _ (ss : List Sight) (A : List ℕ) (T : ℕ) where
  one_idle : (c : ℕ) → ((K : List ℕ) → grown ss c K ≡ K) → known ss A T c ≡ known ss A T (suc c)
  one_idle c idle = elim (cases_lt T c) [
    | inl lt ↦ known_late ss A T c lt ∙ sym (known_late ss A T (suc c) (omega arith))
    | inr le ↦ known_step ss A T c le ∙ idle (known ss A T (suc c))
  ]

  idle_known : (n c : ℕ) → ((k : ℕ) (K : List ℕ) → c ≤ k → k < c + n → grown ss k K ≡ K) → known ss A T c ≡ known ss A T (c + n)
  idle_known zero c idle = ap (known ss A T) (omega arith)
  idle_known (suc n) c idle =
      let e : suc (c + n) ≡ c + suc n = omega arith in
      idle_known n c (λ k K le lt. idle k K le (omega arith)) ∙ (one_idle (c + n) (λ K. idle (c + n) K (omega arith) (omega arith)) ∙ ap (known ss A T) e)

  -- below a bound nothing comes before the latest stage
  pub down_to_latest : (bound : ℕ) → known ss A T (latest bound ss) ≡ known ss A T bound
  down_to_latest bound =
      let le = latest_within ss bound in
      let e : latest bound ss + (bound - latest bound ss) ≡ bound = omega (arith, le) in
      idle_known (bound - latest bound ss) (latest bound ss) (λ k K low high. idle_between ss bound k K low (omega (arith, e, high))) ∙ ap (known ss A T) e

  pub begins_so : (M : ℕ) → All (λ s. stage_of s < M) ss → known ss A T (latest M ss) ≡ begun ss A
  begins_so M all =
      down_to_latest M ∙ (idle_known (suc T) M (λ k K low high. idle_all k K low) ∙ known_late ss A T (M + suc T) (omega arith))
    where
      none : (m : ℕ) (rest : List Sight) (k : ℕ) (K : List ℕ) → All (λ s. stage_of s < m) rest → m ≤ k → grown rest k K ≡ K
      none m [] k K every low = refl
      none m (s ∷ rest) k K every low =
          one_away s rest k K (apart s (every 0 s (omega arith))) ∙ none m rest k K (λ n d h. every (suc n) d (omega arith)) low
        where
          apart : (t : Sight) → stage_of t < m → Away k t
          apart (Inner g i j u home) lt = λ same. absurd (omega (arith, lt, low, same))
          apart Nobody lt = tt
          apart (One' i) lt = tt

      idle_all : (k : ℕ) (K : List ℕ) → M ≤ k → grown ss k K ≡ K
      idle_all k K low = none M ss k K all low

  pub takes_stage : All (λ s. stage_of s ≤ T) ss → (n : ℕ) → grown ss n (known ss A T (suc n)) ≡ known ss A T n
  takes_stage all n = elim (cases_lt T n) [
    | inl lt ↦ idle_past ss T n (known ss A T (suc n)) all lt ∙ (known_late ss A T (suc n) (omega arith) ∙ sym (known_late ss A T n lt))
    | inr le ↦ sym (known_step ss A T n le)
  ]

inner_stage : (k : PartKind) (p : Part) (t : ℕ) → stage_of (inner_sight k p t) ≤ suc t
inner_stage R p t = omega arith
inner_stage Vx p t = omega arith
inner_stage Rr p t = omega arith
inner_stage _ p t = omega arith

sight_stage : (l : Label) (t : ℕ) → stage_of (sight l t) ≤ suc t
sight_stage Clock t = omega arith
sight_stage Public t = omega arith
sight_stage (Random g i j) t = omega arith
sight_stage (Share i p) t = omega arith
sight_stage (InnerPart p) t = inner_stage p.kind p t

-- the stage of a probe is at most one more than its cycle
pub stages_within : (label : ℕ → Label) (ps : List Probe) (T : ℕ) → All (λ p. p.cycle < T) ps → All (λ s. stage_of s ≤ T) (sights label ps)
stages_within label [] T all m d lt = absurd (omega (arith, lt))
stages_within label (p ∷ ps) T all zero d lt = let a = sight_stage (label p.wire) p.cycle in let b = all 0 p (omega arith) in omega (arith, a, b)
stages_within label (p ∷ ps) T all (suc m) d lt = stages_within label ps T (λ n e h. all (suc n) e (omega arith)) m d (omega (arith, lt))

stages_below : (label : ℕ → Label) (ps : List Probe) (M : ℕ) → All (λ p. p.cycle + 1 < M) ps → All (λ s. stage_of s < M) (sights label ps)
stages_below label [] M all m d lt = absurd (omega (arith, lt))
stages_below label (p ∷ ps) M all zero d lt = let a = sight_stage (label p.wire) p.cycle in let b = all 0 p (omega arith) in omega (arith, a, b)
stages_below label (p ∷ ps) M all (suc m) d lt = stages_below label ps M (λ n e h. all (suc n) e (omega arith)) m d (omega (arith, lt))

pub stages_of : (label : ℕ → Label) (ps : List Probe) (M : ℕ) (ss : List Sight) → All (λ p. p.cycle + 1 < M) ps → ss ≡ sights label ps → All (λ s. stage_of s < M) ss
stages_of label ps M ss all is = subst (λ ts. All (λ s. stage_of s < M) ts) (sym is) (stages_below label ps M all)

range_more : (a n : ℕ) → range_with_len a (n + 1) ≡ range_with_len a n ++ (a + n) ∷ []
range_more a zero = let same : a ≡ a + 0 = omega arith in ap (λ k. k ∷ []) same
range_more a (suc n) =
    let rest = range_more (a + 1) n in
    let e : a + 1 + n ≡ a + suc n = omega arith in
    let f : suc n + 1 ≡ suc (n + 1) = omega arith in
    ap (range_with_len a) f ∙ ap (λ xs. a ∷ xs) (rest ∙ ap (λ k. range_with_len (a + 1) n ++ k ∷ []) e)

pub filter_more : (p : ℕ → Bool) (n : ℕ) → filter p (range_with_len 0 (n + 1)) ≡ filter p (range_with_len 0 n) ++ cond (p n) (n ∷ []) []
filter_more p n =
    let e : 0 + n ≡ n = omega arith in
    ap (filter p) (range_more 0 n ∙ ap (λ k. range_with_len 0 n ++ k ∷ []) e) ∙ filter-append p (range_with_len 0 n) (n ∷ [])
