-- Two ascending lists with the same items are the same, and the cone is one.
use Rattle.std.proofs.Common.{◌≡◌, ◌<◌, ◌≤◌, ◌+◌, ◌==◌, ◌∷◌, [], ℕ, zero, suc, Bool, true, false, ◌||◌, cond, List, length, get_or, filter, count_by, refl, sym, ap, ap₂, ◌∙◌, subst, arith, inl, inr, eq-eqb, true≢false}
use Rattle.std.specs.List.{list_any, AllByRecursion, range_with_len}
use Rattle.std.specs.List.Sorted.{IsNonDecreasing}
use Rattle.std.proofs.lemmas.Bool.{cases_Bool, eqb-true}
use Rattle.std.proofs.lemmas.Option.{get_or_from_slice_get, slice_get_within}
use Rattle.agm_net.specs.Loop.{reads, HasNoLoop, IsChain, last_of}
use Rattle.agm_net.specs.Plain.{PlainNet}
use Rattle.agm_net.specs.Run.{driver}
use Rattle.agm_net.specs.WellFormed.{WellFormed}
use Rattle.agm_net.proofs.Driving.{now_is_ever, reads_are_wires, reads_is}
use Rattle.agm_net.proofs.Lists.{all_places, all_of_one, count_yes, count_no, count_some, count_none, some_counted, place_of_any}
use Rattle.probe_cones.specs.Cone.{cone, is_source, within, wire_numbers}
use Rattle.probe_cones.specs.Laws.{LeadsTo}
use Rattle.probe_cones.proofs.Steps.{found_by_steps, steps_of_found}
use Rattle.probe_cones.specs.Walk.{AreLed}

abbrev Rising : List ℕ → Type 0
Rising [] = Unit {0}
Rising (x ∷ xs) = AllByRecursion (λ y. x ≤ y) xs × Rising xs

abbrev times : ℕ → List ℕ → ℕ
times v xs = count_by (λ x. x == v) xs

rising_of : (xs : List ℕ) → IsNonDecreasing xs → Rising xs
rising_of [] h = tt
rising_of (x ∷ xs) h = (
  all_places (λ y. x ≤ y) xs (λ n y at. (
      let lt = slice_get_within xs n y at in
      let is : get_or xs n y ≡ y = get_or_from_slice_get xs n y y at in
      let le : x ≤ get_or xs n y = h 0 (suc n) y (omega arith) (omega arith) in omega (arith, is, le))),
  rising_of xs (λ i j d le lt. h (suc i) (suc j) d (omega arith) (omega arith)),
)

least : (y : ℕ) (ys : List ℕ) (x : ℕ) → Rising (y ∷ ys) → 1 ≤ times x (y ∷ ys) → y ≤ x
least y ys x up some =
    let place = place_of_any (λ z. z == x) (y ∷ ys) (some_counted (λ z. z == x) (y ∷ ys) some) in
    let same : place.1 ≡ x = eqb-true place.1 x place.3 in
    let le : y ≤ place.1 = all_of_one (λ z. y ≤ z) (y ∷ ys) place.0 place.1 (omega arith, up.0) place.2 in omega (arith, same, le)

own : (x : ℕ) (xs : List ℕ) → 1 ≤ times x (x ∷ xs)
own x xs = let e = count_yes (λ z. z == x) x xs (eq-eqb x x refl) in omega (arith, e)

tails : (x : ℕ) (xs ys : List ℕ) (v : ℕ) → times v (x ∷ xs) ≡ times v (x ∷ ys) → times v xs ≡ times v ys
tails x xs ys v e = elim (cases_Bool (x == v)) [
  | inl same ↦ (let a = count_yes (λ z. z == v) x xs same in let b = count_yes (λ z. z == v) x ys same in omega (arith, e, a, b))
  | inr other ↦ (let a = count_no (λ z. z == v) x xs other in let b = count_no (λ z. z == v) x ys other in omega (arith, e, a, b))
]

same_items : (xs ys : List ℕ) → Rising xs → Rising ys → ((v : ℕ) → times v xs ≡ times v ys) → xs ≡ ys
same_items [] [] up up' same = refl
same_items [] (y ∷ ys) up up' same = absurd (let e : 0 ≡ times y (y ∷ ys) = same y in let one = own y ys in omega (arith, e, one))
same_items (x ∷ xs) [] up up' same = absurd (let e : times x (x ∷ xs) ≡ 0 = same x in let one = own x xs in omega (arith, e, one))
same_items (x ∷ xs) (y ∷ ys) up up' same =
    let le : y ≤ x = least y ys x up' (let one = own x xs in let e = same x in omega (arith, one, e)) in
    let ge : x ≤ y = least x xs y up (let one = own y ys in let e = same y in omega (arith, one, e)) in
    let eq : x ≡ y = omega arith in
    ap₂ (λ z zs. z ∷ zs) eq (same_items xs ys up.1 up'.1 (λ v. tails x xs ys v (same v ∙ ap (λ z. times v (z ∷ ys)) (sym eq))))

-- filters and ranges
pub all_filtered : (P : ℕ → Type 0) (p : ℕ → Bool) (xs : List ℕ) → AllByRecursion P xs → AllByRecursion P (filter p xs)
all_filtered P p [] all = tt
all_filtered P p (x ∷ xs) all = go (p x) (all_filtered P p xs all.1)
  where
    go : (b : Bool) → AllByRecursion P (filter p xs) → AllByRecursion P (cond b (x ∷ filter p xs) (filter p xs))
    go true rest = (all.0, rest)
    go false rest = rest

filter_rises : (p : ℕ → Bool) (xs : List ℕ) → Rising xs → Rising (filter p xs)
filter_rises p [] up = tt
filter_rises p (x ∷ xs) up = go (p x) (filter_rises p xs up.1)
  where
    go : (b : Bool) → Rising (filter p xs) → Rising (cond b (x ∷ filter p xs) (filter p xs))
    go true rest = (all_filtered (λ y. x ≤ y) p xs up.0, rest)
    go false rest = rest

filter_times : (p : ℕ → Bool) (v : ℕ) (xs : List ℕ) → times v (filter p xs) ≡ cond (p v) (times v xs) 0
filter_times p v [] = go (p v)
  where
    go : (b : Bool) → ◌≡◌ {A = ℕ} 0 (cond b 0 0)
    go true = refl
    go false = refl
filter_times p v (x ∷ xs) = go (p x) refl (p v) refl (filter_times p v xs)
  where
    go : (b : Bool) → p x ≡ b → (c : Bool) → p v ≡ c → times v (filter p xs) ≡ cond (p v) (times v xs) 0 → times v (cond b (x ∷ filter p xs) (filter p xs)) ≡ cond c (times v (x ∷ xs)) 0
    go true is true at e =
        let e' : times v (filter p xs) ≡ times v xs = e ∙ ap (λ b. cond b (times v xs) 0) at in
        elim (cases_Bool (x == v)) [
          | inl same ↦ (let a = count_yes (λ z. z == v) x (filter p xs) same in let b = count_yes (λ z. z == v) x xs same in omega (arith, e', a, b))
          | inr other ↦ (let a = count_no (λ z. z == v) x (filter p xs) other in let b = count_no (λ z. z == v) x xs other in omega (arith, e', a, b))
        ]
    go true is false at e =
        let e' : times v (filter p xs) ≡ 0 = e ∙ ap (λ b. cond b (times v xs) 0) at in
        elim (cases_Bool (x == v)) [
          | inl same ↦ absurd (true≢false (sym (ap p (sym (eqb-true x v same)) ∙ is) ∙ at))
          | inr other ↦ (let a = count_no (λ z. z == v) x (filter p xs) other in omega (arith, e', a))
        ]
    go false is true at e =
        let e' : times v (filter p xs) ≡ times v xs = e ∙ ap (λ b. cond b (times v xs) 0) at in
        elim (cases_Bool (x == v)) [
          | inl same ↦ absurd (true≢false (sym at ∙ (ap p (sym (eqb-true x v same)) ∙ is)))
          | inr other ↦ (let b = count_no (λ z. z == v) x xs other in omega (arith, e', b))
        ]
    go false is false at e = e ∙ ap (λ b. cond b (times v xs) 0) at

range_rises : (a n : ℕ) → Rising (range_with_len a n)
range_rises a zero = tt
range_rises a (suc n) = (from (a + 1) n a (omega arith), range_rises (a + 1) n)
  where
    from : (b m c : ℕ) → c ≤ b → AllByRecursion (λ y. c ≤ y) (range_with_len b m)
    from b zero c le = tt
    from b (suc m) c le = (le, from (b + 1) m c (omega arith))

range_past : (v a n : ℕ) → v < a → times v (range_with_len a n) ≡ 0
range_past v a zero lt = refl
range_past v a (suc n) lt = elim (cases_Bool (a == v)) [
  | inl same ↦ absurd (let is = eqb-true a v same in omega arith)
  | inr other ↦ count_no (λ z. z == v) a (range_with_len (a + 1) n) other ∙ range_past v (a + 1) n (omega arith)
]

range_once : (v a n : ℕ) → times v (range_with_len a n) ≤ 1
range_once v a zero = omega arith
range_once v a (suc n) = elim (cases_Bool (a == v)) [
  | inl same ↦ (let is = eqb-true a v same in let e = count_yes (λ z. z == v) a (range_with_len (a + 1) n) same in
      let none = range_past v (a + 1) n (omega arith) in omega (arith, e, none))
  | inr other ↦ (let e = count_no (λ z. z == v) a (range_with_len (a + 1) n) other in let rest = range_once v (a + 1) n in omega (arith, e, rest))
]

filter_once : (p : ℕ → Bool) (xs : List ℕ) (v : ℕ) → times v xs ≤ 1 → times v (filter p xs) ≤ 1
filter_once p xs v le = let e = filter_times p v xs in let small = less (p v) in omega (arith, e, small, le)
  where
    less : (b : Bool) → cond b (times v xs) 0 ≤ times v xs
    less true = omega arith
    less false = omega arith

module _ (net : PlainNet) (w : ℕ) where
  within_rises : (n : ℕ) → Rising (within net w n)
  within_rises zero = filter_rises (λ v. w == v) (wire_numbers net) (range_rises 0 (length net.wires))
  within_rises (suc n) = filter_rises (λ v. list_any (λ u. (u == v) || reads net u v) (within net w n)) (wire_numbers net) (range_rises 0 (length net.wires))

  within_once : (n v : ℕ) → times v (within net w n) ≤ 1
  within_once zero v = filter_once (λ v. w == v) (wire_numbers net) v (range_once v 0 (length net.wires))
  within_once (suc n) v = filter_once (λ v. list_any (λ u. (u == v) || reads net u v) (within net w n)) (wire_numbers net) v (range_once v 0 (length net.wires))

  cone_rises : Rising (cone net w)
  cone_rises = filter_rises (λ v. is_source (driver net v)) (within net w (length net.wires)) (within_rises (length net.wires))

  cone_once : (v : ℕ) → times v (cone net w) ≤ 1
  cone_once v = filter_once (λ v. is_source (driver net v)) (within net w (length net.wires)) v (within_once (length net.wires) v)

pub led_inside : (net : PlainNet) → WellFormed net → (w : ℕ) → w < length net.wires → (v : ℕ) → LeadsTo net w v → v < length net.wires
led_inside net well w inside v leads = subst (λ k. k < length net.wires) leads.2 (last_inside w leads.0 inside leads.1)
  where
    last_inside : (u : ℕ) (vs : List ℕ) → u < length net.wires → IsChain (reads net) u vs → last_of u vs < length net.wires
    last_inside u [] inside chain = inside
    last_inside u (v ∷ vs) inside chain = last_inside v vs (reads_are_wires net well u v inside (now_is_ever (driver net u) v (sym (reads_is net well u v) ∙ chain.0))) chain.1

-- What is found in a walk, without what is no source, sorted, is the cone.
pub cone_is : (net : PlainNet) → WellFormed net → HasNoLoop net → (w : ℕ) → w < length net.wires → (p : ℕ → Bool) → ((v : ℕ) → v < length net.wires → p v ≡ is_source (driver net v))
    → (found sorted : List ℕ) → AreLed net w found → ((v : ℕ) → times v sorted ≡ times v (filter p found)) → IsNonDecreasing sorted → sorted ≡ cone net w
cone_is net well none w inside p source found sorted led moved up = same_items sorted (cone net w) (rising_of sorted up) (cone_rises net w) same
  where
    counts : (v : ℕ) (b : Bool) → p v ≡ b → times v sorted ≡ cond b (times v found) 0
    counts v b is = moved v ∙ (filter_times p v found ∙ ap (λ b. cond b (times v found) 0) is)

    nothing : (v : ℕ) → (list_any (λ x. x == v) (cone net w) ≡ true → Prim.⊥) → times v (cone net w) ≡ 0
    nothing v never = elim (cases_Bool (list_any (λ x. x == v) (cone net w))) [
      | inl yes' ↦ absurd (never yes')
      | inr free ↦ count_none (λ x. x == v) (cone net w) free
    ]

    same : (v : ℕ) → times v sorted ≡ times v (cone net w)
    same v = elim (cases_Bool (list_any (λ x. x == v) found)) [
      | inl among ↦ (
          let leads = (led.leads v).0 among in
          let lt = led_inside net well w inside v leads in
          let some = count_some (λ x. x == v) found among in
          let few = led.once v in
          elim (cases_Bool (is_source (driver net v))) [
            | inl is ↦ (
                let a : times v sorted ≡ times v found = counts v true (source v lt ∙ is) in
                let b = count_some (λ x. x == v) (cone net w) (found_by_steps net well none w v inside is leads) in
                let c = cone_once net w v in omega (arith, a, b, c, some, few))
            | inr other ↦ (
                let a : times v sorted ≡ 0 = counts v false (source v lt ∙ other) in
                let b = nothing v (λ h. true≢false (sym (steps_of_found net well none w v h).0 ∙ other)) in omega (arith, a, b))
          ])
      | inr free ↦ (
          let zero_found = count_none (λ x. x == v) found free in
          let a : times v sorted ≡ 0 = counts v (p v) refl ∙ (ap (λ n. cond (p v) n 0) zero_found ∙ no_more (p v)) in
          let b = nothing v (λ h. true≢false (sym ((led.leads v).1 (steps_of_found net well none w v h).1) ∙ free)) in omega (arith, a, b))
    ]
      where
        no_more : (b : Bool) → ◌≡◌ {A = ℕ} (cond b 0 0) 0
        no_more true = refl
        no_more false = refl
