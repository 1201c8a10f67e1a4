-- Lists that have each number below their length once.
use Rattle.std.proofs.Common.{◌≡◌, ◌≢◌, ◌≤◌, ◌<◌, ◌+◌, ◌==◌, ℕ, zero, suc, Bool, true, false, not, ◌||◌, cond, List, [], ◌∷◌, ◌++◌, length, get_or, nat_lt, IsTrue, refl, sym, ap, ◌∙◌, inl, inr, arith, eq-eqb}
use Rattle.std.specs.List.{list_any, position_or_len, AllByRecursion}
use Rattle.std.proofs.lemmas.Bool.{both_ways, cases_lt, cases_Bool, eqb-true, lt-ltb, le-ltb, ne_eqb}
use Rattle.design_binds.proofs.Apart.{all_append}

-- no number is a later one
abbrev pub Once : List ℕ → Type 0
Once [] = Unit {0}
Once (x ∷ xs) = AllByRecursion (λ y. y ≢ x) xs × Once xs

abbrev pub has : List ℕ → ℕ → Bool
has xs w = list_any (λ v. v == w) xs

-- the numbers of two lists stand once where those of each do, and none of the second is one of the first
pub once_append : (xs ys : List ℕ) → Once xs → Once ys → AllByRecursion (λ x. AllByRecursion (λ y. y ≢ x) ys) xs → Once (xs ++ ys)
once_append [] ys a b h = b
once_append (x ∷ xs) ys a b h = (all_append (λ y. y ≢ x) xs ys a.0 h.0, once_append xs ys a.1 b h.1)

-- the second of two where the first is not
later_of : (a b : Bool) → a ≡ false → (a || b) ≡ true → b ≡ true
later_of a b e h = sym (ap (λ c. c || b) e) ∙ h

-- where a number is, and what is there
pub place_below : (xs : List ℕ) (w : ℕ) → IsTrue (has xs w) → position_or_len (λ v. v == w) xs < length xs
place_below [] w h = absurd (both_ways false refl h)
place_below (x ∷ xs) w h =
    elim (cases_Bool (x == w)) [
      | inl e ↦ let here : position_or_len (λ v. v == w) (x ∷ xs) ≡ 0 = ap (λ b. cond (not b) (1 + position_or_len (λ v. v == w) xs) 0) e in omega arith
      | inr e ↦ let rest = place_below xs w (later_of (x == w) (has xs w) e h) in
          let later : position_or_len (λ v. v == w) (x ∷ xs) ≡ 1 + position_or_len (λ v. v == w) xs = ap (λ b. cond (not b) (1 + position_or_len (λ v. v == w) xs) 0) e in omega arith
    ]

pub there_it_is : (xs : List ℕ) (w d : ℕ) → IsTrue (has xs w) → get_or xs (position_or_len (λ v. v == w) xs) d ≡ w
there_it_is [] w d h = absurd (both_ways false refl h)
there_it_is (x ∷ xs) w d h =
    elim (cases_Bool (x == w)) [
      | inl e ↦ let here : position_or_len (λ v. v == w) (x ∷ xs) ≡ 0 = ap (λ b. cond (not b) (1 + position_or_len (λ v. v == w) xs) 0) e in
          ap (λ k. get_or (x ∷ xs) k d) here ∙ eqb-true x w e
      | inr e ↦ let one : position_or_len (λ v. v == w) (x ∷ xs) ≡ 1 + position_or_len (λ v. v == w) xs = ap (λ b. cond (not b) (1 + position_or_len (λ v. v == w) xs) 0) e in
          let later : position_or_len (λ v. v == w) (x ∷ xs) ≡ suc (position_or_len (λ v. v == w) xs) = omega arith in
          ap (λ k. get_or (x ∷ xs) k d) later ∙ there_it_is xs w d (later_of (x == w) (has xs w) e h)
    ]

number_at : (P : ℕ → Type 0) (xs : List ℕ) (k d : ℕ) → AllByRecursion P xs → k < length xs → P (get_or xs k d)
number_at P [] k d all lt = absurd (omega arith)
number_at P (x ∷ xs) zero d all lt = all.0
number_at P (x ∷ xs) (suc k) d all lt = number_at P xs k d all.1 (omega arith)

pub place_again : (xs : List ℕ) (k d : ℕ) → Once xs → k < length xs → position_or_len (λ v. v == get_or xs k d) xs ≡ k
place_again [] k d o lt = absurd (omega arith)
place_again (x ∷ xs) zero d o lt = ap (λ b. cond (not b) (1 + position_or_len (λ v. v == x) xs) 0) (eq-eqb x x refl)
place_again (x ∷ xs) (suc k) d o lt =
    let other = number_at (λ y. y ≢ x) xs k d o.0 (omega arith) in
    let skip : (x == get_or xs k d) ≡ false = ne_eqb x (get_or xs k d) (λ e. other (sym e)) in
    let rest = place_again xs k d o.1 (omega arith) in
    let later : position_or_len (λ v. v == get_or (x ∷ xs) (suc k) d) (x ∷ xs) ≡ 1 + position_or_len (λ v. v == get_or xs k d) xs = ap (λ b. cond (not b) (1 + position_or_len (λ v. v == get_or xs k d) xs) 0) skip in
    omega arith

-- each number below the length is in the list once, and nothing else is
pub record IsOrder (xs : List ℕ) : Type 0 where
  pub once : Once xs
  pub below : AllByRecursion (λ w. w < length xs) xs
  pub all_there : (w : ℕ) → w < length xs → IsTrue (has xs w)

-- the place of a number, and the number at a place; past the end each is itself
abbrev pub place : List ℕ → ℕ → ℕ
place xs w = cond (nat_lt w (length xs)) (position_or_len (λ v. v == w) xs) w

abbrev pub number : List ℕ → ℕ → ℕ
number xs v = get_or xs v v

past : (xs : List ℕ) (k d : ℕ) → length xs ≤ k → get_or xs k d ≡ d
past [] k d le = refl
past (x ∷ xs) zero d le = absurd (omega arith)
past (x ∷ xs) (suc k) d le = past xs k d (omega arith)

pub place_in : (xs : List ℕ) (w : ℕ) → w < length xs → place xs w ≡ position_or_len (λ v. v == w) xs
place_in xs w lt = ap (λ b. cond b (position_or_len (λ v. v == w) xs) w) (lt-ltb w (length xs) lt)

pub place_out : (xs : List ℕ) (w : ℕ) → length xs ≤ w → place xs w ≡ w
place_out xs w le = ap (λ b. cond b (position_or_len (λ v. v == w) xs) w) (le-ltb w (length xs) le)

pub place_inside : (xs : List ℕ) (w : ℕ) → IsOrder xs → w < length xs → place xs w < length xs
place_inside xs w o lt = let e = place_in xs w lt in let below = place_below xs w (o.all_there w lt) in omega arith

pub number_of_place : (xs : List ℕ) (w : ℕ) → IsOrder xs → number xs (place xs w) ≡ w
number_of_place xs w o =
    elim (cases_lt w (length xs)) [
      | inl lt ↦ ap (λ k. get_or xs k k) (place_in xs w lt) ∙ there_it_is xs w (position_or_len (λ v. v == w) xs) (o.all_there w lt)
      | inr le ↦ ap (λ k. get_or xs k k) (place_out xs w le) ∙ past xs w w le
    ]

pub place_of_number : (xs : List ℕ) (v : ℕ) → IsOrder xs → place xs (number xs v) ≡ v
place_of_number xs v o =
    elim (cases_lt v (length xs)) [
      | inl lt ↦ place_in xs (get_or xs v v) (number_at (λ w. w < length xs) xs v v o.below lt) ∙ place_again xs v v o.once lt
      | inr le ↦ ap (λ w. place xs w) (past xs v v le) ∙ place_out xs v le
    ]
