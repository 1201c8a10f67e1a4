-- At most one index is permitted for each probe, beside the listed ones.
use Rattle.std.proofs.Common.{◌≡◌, ℕ, zero, suc, ◌+◌, ◌-◌, ◌≤◌, Bool, true, false, ◌||◌, cond, List, [], ◌∷◌, ◌++◌, length, nat_eq, leb, refl, sym, ap, ◌∙◌, subst, arith, append_assoc, length-append}
use Rattle.std.proofs.lemmas.Bool.Decides.{nat_tests}
use Rattle.twin_tape.specs.Permitted.{begun, grown, has, known, taken, with}
use Rattle.twin_tape.specs.declared.sight.Sight.{Sight}
use Rattle.twin_tape.specs.declared.sight.Sight.TheVariants.{Inner, Nobody, One as One'}

-- K' is K with at most n new indices in front
abbrev pub Adds : List ℕ → List ℕ → ℕ → Type 0
Adds K K' n = (new : List ℕ) × (K' ≡ new ++ K) × (length new ≤ n)

adds_none : (K : List ℕ) (n : ℕ) → Adds K K n
adds_none K n = ([], refl, omega arith)

adds_then : (K K' K'' : List ℕ) (m n l : ℕ) → Adds K K' m → Adds K' K'' n → m + n ≤ l → Adds K K'' l
adds_then K K' K'' m n l a b le =
    (b.0 ++ a.0, b.1 ∙ ap (λ k. b.0 ++ k) a.1 ∙ sym append_assoc', let e = length-append b.0 a.0 in let f = a.2 in let h = b.2 in omega arith)
  where
    append_assoc' : (b.0 ++ a.0) ++ K ≡ b.0 ++ (a.0 ++ K)
    append_assoc' = append_assoc b.0 a.0 K

adds_with : (i : ℕ) (K : List ℕ) → Adds K (with i K) 1
adds_with i K = go (has K i)
  where
    go : (b : Bool) → Adds K (cond b K (i ∷ K)) 1
    go true = adds_none K 1
    go false = (i ∷ [], refl, omega arith)

-- sums over the sights
abbrev tally : (Sight → ℕ) → List Sight → ℕ
tally f [] = 0
tally f (σ ∷ sights) = f σ + tally f sights

tally_both : (f g h : Sight → ℕ) (sights : List Sight) → ((σ : Sight) → f σ + g σ ≤ h σ) → tally f sights + tally g sights ≤ tally h sights
tally_both f g h [] le = omega arith
tally_both f g h (σ ∷ sights) le = let a = le σ in let b = tally_both f g h sights le in omega arith

abbrev plain_one : Sight → ℕ
plain_one Nobody = 0
plain_one (One' i) = 1
plain_one (Inner g i j s home) = 0

abbrev stage_one : ℕ → Sight → ℕ
stage_one stage Nobody = 0
stage_one stage (One' i) = 0
stage_one stage (Inner g i j s home) = cond (nat_eq s stage) 1 0

-- the inner probes of the n latest stages up to top
abbrev late_one : ℕ → ℕ → Sight → ℕ
late_one top n Nobody = 0
late_one top n (One' i) = 0
late_one top n (Inner g i j s home) = cond (leb s top) (cond (leb (suc top) (s + n)) 1 0) 0

abbrev any_one : Sight → ℕ
any_one σ = 1

tally_length : (sights : List Sight) → tally any_one sights ≡ length sights
tally_length [] = refl
tally_length (σ ∷ sights) = let e = tally_length sights in omega arith

adds_begun : (sights : List Sight) (A : List ℕ) → Adds A (begun sights A) (tally plain_one sights)
adds_begun [] A = adds_none A 0
adds_begun (Nobody ∷ sights) A = adds_then A (begun sights A) (begun sights A) (tally plain_one sights) 0 (0 + tally plain_one sights) (adds_begun sights A) (adds_none (begun sights A) 0) (omega arith)
adds_begun (One' i ∷ sights) A = adds_then A (begun sights A) (with i (begun sights A)) (tally plain_one sights) 1 (1 + tally plain_one sights) (adds_begun sights A) (adds_with i (begun sights A)) (omega arith)
adds_begun (Inner g i j s home ∷ sights) A = adds_then A (begun sights A) (begun sights A) (tally plain_one sights) 0 (0 + tally plain_one sights) (adds_begun sights A) (adds_none (begun sights A) 0) (omega arith)

adds_grown : (sights : List Sight) (stage : ℕ) (K : List ℕ) → Adds K (grown sights stage K) (tally (stage_one stage) sights)
adds_grown [] stage K = adds_none K 0
adds_grown (Nobody ∷ sights) stage K = adds_then K K (grown sights stage K) 0 (tally (stage_one stage) sights) (0 + tally (stage_one stage) sights) (adds_none K 0) (adds_grown sights stage K) (omega arith)
adds_grown (One' i ∷ sights) stage K = adds_then K K (grown sights stage K) 0 (tally (stage_one stage) sights) (0 + tally (stage_one stage) sights) (adds_none K 0) (adds_grown sights stage K) (omega arith)
adds_grown (Inner g i j s home ∷ sights) stage K =
    let step = cond (has K home) (with (cond (nat_eq home i) j i) K) (home ∷ K) in
    let K' = cond (nat_eq s stage) step K in
    adds_then K K' (grown sights stage K') (cond (nat_eq s stage) 1 0) (tally (stage_one stage) sights) (cond (nat_eq s stage) 1 0 + tally (stage_one stage) sights)
    (here (nat_eq s stage) (has K home)) (adds_grown sights stage K') (omega arith)
  where
    step_adds : (c : Bool) → Adds K (cond c (with (cond (nat_eq home i) j i) K) (home ∷ K)) 1
    step_adds true = adds_with (cond (nat_eq home i) j i) K
    step_adds false = (home ∷ [], refl, omega arith)

    here : (b c : Bool) → Adds K (cond b (cond c (with (cond (nat_eq home i) j i) K) (home ∷ K)) K) (cond b 1 0)
    here true c = step_adds c
    here false c = adds_none K 0

late_step : (top n : ℕ) → n ≤ top → (σ : Sight) → late_one top n σ + stage_one (top - n) σ ≤ late_one top (suc n) σ
late_step top n le Nobody = omega arith
late_step top n le (One' i) = omega arith
late_step top n le (Inner g i j s home) = grind (arith, nat_tests)

late_all : (top : ℕ) (σ : Sight) → plain_one σ + late_one top (suc top) σ ≤ any_one σ
late_all top Nobody = omega arith
late_all top (One' i) = omega arith
late_all top (Inner g i j s home) = grind (arith, nat_tests)

late_none : (top : ℕ) (sights : List Sight) → 0 ≤ tally (late_one top 0) sights
late_none top sights = omega arith

adds_taken : (sights : List Sight) (A : List ℕ) (top n : ℕ) → n ≤ suc top → Adds (begun sights A) (taken sights A top n) (tally (late_one top n) sights)
adds_taken sights A top zero le = adds_none (begun sights A) (tally (late_one top 0) sights)
adds_taken sights A top (suc n) le =
    adds_then (begun sights A) (taken sights A top n) (grown sights (top - n) (taken sights A top n)) (tally (late_one top n) sights) (tally (stage_one (top - n)) sights) (tally (late_one top (suc n)) sights)
    (adds_taken sights A top n (omega arith)) (adds_grown sights (top - n) (taken sights A top n))
    (tally_both (late_one top n) (stage_one (top - n)) (late_one top (suc n)) sights (late_step top n (omega arith)))

pub adds_permitted : (sights : List Sight) (A : List ℕ) (T : ℕ) → Adds A (known sights A T 0) (length sights)
adds_permitted sights A T =
    let e : suc T - 0 ≡ suc T = omega arith in
    subst (λ n. Adds A (taken sights A T n) (length sights)) (sym e)
    (adds_then A (begun sights A) (taken sights A T (suc T)) (tally plain_one sights) (tally (late_one T (suc T)) sights) (length sights)
    (adds_begun sights A) (adds_taken sights A T (suc T) (omega arith))
    (let le = tally_both plain_one (late_one T (suc T)) any_one sights (late_all T) in let e = tally_length sights in omega arith))

or_swap : (a b c : Bool) → (a || b) ≡ c → (b || a) ≡ c
or_swap a b c e = grind arith

has-append : (xs ys : List ℕ) (i : ℕ) → has (xs ++ ys) i ≡ (has xs i || has ys i)
has-append [] ys i = refl
has-append (x ∷ xs) ys i = ap (λ b. nat_eq i x || b) (has-append xs ys i) ∙ or_assoc (nat_eq i x) (has xs i) (has ys i)
  where
    or_assoc : (a b c : Bool) → (a || (b || c)) ≡ ((a || b) || c)
    or_assoc true b c = refl
    or_assoc false b c = refl

pub has_swap : (xs ys : List ℕ) (i : ℕ) → has (xs ++ ys) i ≡ true → has (ys ++ xs) i ≡ true
has_swap xs ys i h = has-append ys xs i ∙ or_swap (has xs i) (has ys i) true (sym (has-append xs ys i) ∙ h)
