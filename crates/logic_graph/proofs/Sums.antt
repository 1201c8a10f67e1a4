-- Sums over an order are those over all, and numbers in a row differ.
use Rattle.std.proofs.Common.{◌≡◌, ◌<◌, ◌≤◌, ◌+◌, ◌==◌, ◌++◌, ℕ, zero, suc, Bool, false, ◌||◌, cond, List, [], ◌∷◌, Some, IsTrue, refl, sym, ap, ap₂, ◌∙◌, inl, inr, length, length-append, slice_get, get_or, map, sum_by, count_by, flat_map, arith, eq-eqb, zero-add}
use Rattle.std.specs.List.{range_with_len, list_any, AllByRecursion}
use Rattle.std.proofs.lemmas.Bool.{cases_Bool, cases_eq, eqb-true, ne_eqb, or_cases, or_left, or_right, both_ways, false_from_ne_true}
use Rattle.std.proofs.lemmas.List.Sums.{sum_by-cons, sum_by-append}
use Rattle.std.proofs.lemmas.List.FromFn.{length-range_with_len}
use Rattle.std.proofs.Common.{append_assoc}
use Rattle.agm_net.specs.Formula.{Formula}
use Rattle.agm_net.specs.Plain.{Line}
use Rattle.agm_net.proofs.Lists.{any_at, count_append, count_no, count_some, count_yes}
use Rattle.agm_net.specs.Small.{IsFresh}
use Rattle.logic_graph.specs.Operators.{operators}
use Rattle.logic_graph.specs.Searching.{IsOrder, is_set, line_at, is_unset}
use Rattle.logic_graph.specs.Drawn.{starts, Job, jobs, next_jobs}
use Rattle.logic_graph.proofs.Jobs.{job_numbers}

-- no item stands twice
abbrev OnceEach : List ℕ → Type 0
OnceEach [] = Unit {0}
OnceEach (x ∷ xs) = (list_any (λ j. j == x) xs ≡ false) × OnceEach xs

-- known wires have no equation
known_unset : (known : ℕ → Bool) (ls : List Line) (w : ℕ) → IsFresh known ls → IsTrue (known w) → is_set ls w ≡ false
known_unset known [] w fresh h = refl
known_unset known (l ∷ ls) w fresh h =
    let apart : (l.0 == w) ≡ false = false_from_ne_true (l.0 == w) (λ same. both_ways (known l.0) fresh.0 (ap known (eqb-true l.0 w same) ∙ h)) in
    rw apart (known_unset (λ v. (v == l.0) || known v) ls w fresh.2 (or_right (w == l.0) (known w) h))

any_line : (lines : List Line) (order : List ℕ) (i : ℕ) → IsTrue (list_any (λ j. j == i) order) → IsTrue (is_set (map (line_at lines) order) (line_at lines i).0)
any_line lines [] i any = any
any_line lines (j ∷ js) i any =
    let w = (line_at lines i).0 in
    let rest = is_set (map (line_at lines) js) w in
    elim (or_cases (j == i) (list_any (λ k. k == i) js) any) [
      | inl same ↦ or_left ((line_at lines j).0 == w) rest (eq-eqb (line_at lines j).0 w (ap (λ k. (line_at lines k).0) (eqb-true j i same)))
      | inr later ↦ or_right ((line_at lines j).0 == w) rest (any_line lines js i later)
    ]

once_each : (known : ℕ → Bool) (lines : List Line) (order : List ℕ) → IsFresh known (map (line_at lines) order) → OnceEach order
once_each known lines [] fresh = tt
once_each known lines (i ∷ is) fresh =
    let w = (line_at lines i).0 in (
      false_from_ne_true (list_any (λ j. j == i) is) (λ any.
          both_ways (is_set (map (line_at lines) is) w) (known_unset (λ v. (v == w) || known v) (map (line_at lines) is) w fresh.2 (or_left (w == w) (known w) (eq-eqb w w refl))) (any_line lines is i any)),
      once_each (λ v. (v == w) || known v) lines is fresh.2,
    )

-- sums of equal terms
sum_same : {X : Type 0} (f g : X → ℕ) (xs : List X) → ((x : X) → f x ≡ g x) → sum_by f xs ≡ sum_by g xs
sum_same f g [] h = refl
sum_same f g (x ∷ xs) h = sum_by-cons f x xs ∙ (ap₂ (λ a b. a + b) (h x) (sum_same f g xs h) ∙ sym (sum_by-cons g x xs))

sum_range_same : (f g : ℕ → ℕ) (a n : ℕ) → ((i : ℕ) → i < a + n → f i ≡ g i) → sum_by f (range_with_len a n) ≡ sum_by g (range_with_len a n)
sum_range_same f g a zero h = refl
sum_range_same f g a (suc n) h =
    sum_by-cons f a (range_with_len (a + 1) n)
    ∙ (ap₂ (λ x y. x + y) (h a (omega arith)) (sum_range_same f g (a + 1) n (λ i lt. h i (omega arith))) ∙ sym (sum_by-cons g a (range_with_len (a + 1) n)))

-- sums of two terms
sum_both : {X : Type 0} (f g : X → ℕ) (xs : List X) → sum_by (λ x. f x + g x) xs ≡ sum_by f xs + sum_by g xs
sum_both f g [] = refl
sum_both f g (x ∷ xs) =
    let rest = sum_both f g xs in
    let one = sum_by-cons f x xs in
    let two = sum_by-cons g x xs in
    sum_by-cons (λ y. f y + g y) x xs ∙ omega arith

sum_none : {X : Type 0} (xs : List X) → sum_by (λ x. 0) xs ≡ 0
sum_none [] = refl
sum_none (x ∷ xs) = sum_by-cons (λ y. 0) x xs ∙ (zero-add _ ∙ sum_none xs)

-- the term of one number among numbers in a row
picked_none : (f : ℕ → ℕ) (x a n : ℕ) → x < a → sum_by (λ i. cond (x == i) (f i) 0) (range_with_len a n) ≡ 0
picked_none f x a zero lt = refl
picked_none f x a (suc n) lt =
    let rest = picked_none f x (a + 1) n (omega arith) in
    let apart : cond (x == a) (f a) 0 ≡ 0 = rw (ne_eqb x a (λ same. absurd (omega arith))) refl in
    sum_by-cons (λ i. cond (x == i) (f i) 0) a (range_with_len (a + 1) n) ∙ omega arith

picked : (f : ℕ → ℕ) (x a n : ℕ) → a ≤ x → x < a + n → sum_by (λ i. cond (x == i) (f i) 0) (range_with_len a n) ≡ f x
picked f x a zero le lt = absurd (omega arith)
picked f x a (suc n) le lt =
    sum_by-cons (λ i. cond (x == i) (f i) 0) a (range_with_len (a + 1) n)
    ∙ elim (cases_eq x a) [
      | inl same ↦ (
          let none = picked_none f x (a + 1) n (omega arith) in
          let here : cond (x == a) (f a) 0 ≡ f x = rw (eq-eqb x a same) (ap f (sym same)) in
          omega arith)
      | inr apart ↦ (
          let rest = picked f x (a + 1) n (omega arith) (omega arith) in
          let here : cond (x == a) (f a) 0 ≡ 0 = rw (ne_eqb x a apart) refl in
          omega arith)
    ]

-- a sum over numbers that differ is one over all that are among them
sum_among : (f : ℕ → ℕ) (n : ℕ) (order : List ℕ) → OnceEach order → AllByRecursion (λ i. i < n) order
    → sum_by f order ≡ sum_by (λ i. cond (list_any (λ j. j == i) order) (f i) 0) (range_with_len 0 n)
sum_among f n [] once within = sym (sum_none (range_with_len 0 n))
sum_among f n (x ∷ xs) once within =
    let among = λ (i : ℕ). list_any (λ j. j == i) xs in
    let split : (i : ℕ) → cond ((x == i) || among i) (f i) 0 ≡ cond (x == i) (f i) 0 + cond (among i) (f i) 0 = λ i. elim (cases_Bool (x == i)) [
      | inl same ↦ (let absent : among i ≡ false = ap among (sym (eqb-true x i same)) ∙ once.0 in rw (same, absent) (omega arith))
      | inr apart ↦ rw apart (sym (zero-add _))
    ] in
    sum_by-cons f x xs
    ∙ (ap₂ (λ a b. a + b) (sym (picked f x 0 n (omega arith) (let lt = within.0 in omega arith))) (sum_among f n xs once.1 within.1)
    ∙ (sym (sum_both (λ i. cond (x == i) (f i) 0) (λ i. cond (among i) (f i) 0) (range_with_len 0 n)) ∙ sym (sum_same _ _ (range_with_len 0 n) split)))

-- a sum over an order is one over all
sum_order : (f : ℕ → ℕ) (lines : List Line) (order : List ℕ) → IsOrder lines order → sum_by f order ≡ sum_by f (range_with_len 0 (length lines))
sum_order f lines order h =
    sum_among f (length lines) order (once_each (is_unset lines) lines order h.fresh) h.within
    ∙ sum_range_same (λ i. cond (list_any (λ j. j == i) order) (f i) 0) f 0 (length lines) (λ i lt. rw (h.whole i (omega arith)) refl)

-- all equations as jobs, where the first operator has number m
abbrev pub all_jobs : ℕ → List Line → List Job
all_jobs m [] = []
all_jobs m (l ∷ ls) = (l, m) ∷ all_jobs (m + operators l.1) ls

map_shifted : {X : Type 0} (f : ℕ → X) (a n : ℕ) → map f (range_with_len (a + 1) n) ≡ map (λ i. f (suc i)) (range_with_len a n)
map_shifted f a zero = refl
map_shifted f a (suc n) = let same : a + 1 ≡ suc a = omega arith in ap₂ (λ x xs. x ∷ xs) (ap f same) (map_shifted f (a + 1) n)

range_jobs : (m : ℕ) (ls : List Line) → map (λ i. (line_at ls i, get_or (starts m (map (λ l. l.1) ls)) i 0)) (range_with_len 0 (length ls)) ≡ all_jobs m ls
range_jobs m [] = refl
range_jobs m (l ∷ ls) =
    ap (λ js. (l, m) ∷ js) (map_shifted (λ i. (line_at (l ∷ ls) i, get_or (m ∷ starts (m + operators l.1) (map (λ k. k.1) ls)) i 0)) 0 (length ls) ∙ range_jobs (m + operators l.1) ls)

sum_map : {X Y : Type 0} (f : Y → ℕ) (g : X → Y) (xs : List X) → sum_by f (map g xs) ≡ sum_by (λ x. f (g x)) xs
sum_map f g [] = refl
sum_map f g (x ∷ xs) = sum_by-cons f (g x) (map g xs) ∙ (ap (λ n. f (g x) + n) (sum_map f g xs) ∙ sym (sum_by-cons (λ y. f (g y)) x xs))

-- a sum over jobs in an order is one over all equations
pub sum_jobs : (f : Job → ℕ) (lines : List Line) (order : List ℕ) → IsOrder lines order → sum_by f (jobs lines (starts 0 (map (λ l. l.1) lines)) order) ≡ sum_by f (all_jobs 0 lines)
sum_jobs f lines order h =
    let job : ℕ → Job = λ i. (line_at lines i, get_or (starts 0 (map (λ l. l.1) lines)) i 0) in
    sum_map f job order ∙ (sum_order (λ i. f (job i)) lines order h ∙ (sym (sum_map f job (range_with_len 0 (length lines))) ∙ ap (sum_by f) (range_jobs 0 lines)))

-- numbers in a row, and behind them more
range_joined : (a m n : ℕ) → range_with_len a m ++ range_with_len (a + m) n ≡ range_with_len a (m + n)
range_joined a zero n = let same : a + 0 ≡ a = omega arith in let count : n ≡ 0 + n = omega arith in ap₂ range_with_len same count
range_joined a (suc m) n =
    let same : a + suc m ≡ a + 1 + m = omega arith in
    let count : suc (m + n) ≡ suc m + n = omega arith in
    ap (λ ks. a ∷ ks) (ap (λ k. range_with_len (a + 1) m ++ range_with_len k n) same ∙ range_joined (a + 1) m n) ∙ ap (range_with_len a) count

-- how many operators formulas have
abbrev pub total : List Formula → ℕ
total fs = sum_by operators fs

-- the numbers of all equations are in a row
all_numbers : (m : ℕ) (ls : List Line) → job_numbers (all_jobs m ls) ≡ range_with_len m (total (map (λ l. l.1) ls))
all_numbers m [] = refl
all_numbers m (l ∷ ls) =
    ap (λ ns. range_with_len m (operators l.1) ++ ns) (all_numbers (m + operators l.1) ls)
    ∙ (range_joined m (operators l.1) (total (map (λ k. k.1) ls)) ∙ ap (range_with_len m) (sym (sum_by-cons operators l.1 (map (λ k. k.1) ls))))

-- and those of registers
next_numbers : (w m : ℕ) (fs : List Formula) → job_numbers (next_jobs w fs (starts m fs)) ≡ range_with_len m (total fs)
next_numbers w m [] = refl
next_numbers w m (f ∷ fs) =
    ap (λ ns. range_with_len m (operators f) ++ ns) (next_numbers (w + 1) (m + operators f) fs)
    ∙ (range_joined m (operators f) (total fs) ∙ ap (range_with_len m) (sym (sum_by-cons operators f fs)))

-- a count over lists in a row
count_flat : {X Y : Type 0} (p : Y → Bool) (g : X → List Y) (xs : List X) → count_by p (flat_map g xs) ≡ sum_by (λ x. count_by p (g x)) xs
count_flat p g [] = refl
count_flat p g (x ∷ xs) = count_append p (g x) (flat_map g xs) ∙ (ap (λ n. count_by p (g x) + n) (count_flat p g xs) ∙ sym (sum_by-cons (λ y. count_by p (g y)) x xs))

length_flat : {X Y : Type 0} (g : X → List Y) (xs : List X) → length (flat_map g xs) ≡ sum_by (λ x. length (g x)) xs
length_flat g [] = refl
length_flat g (x ∷ xs) = length-append (g x) (flat_map g xs) ∙ (ap (λ n. length (g x) + n) (length_flat g xs) ∙ sym (sum_by-cons (λ y. length (g y)) x xs))

-- numbers in a row stand there once
range_once : (v a n : ℕ) → count_by (λ k. k == v) (range_with_len a n) ≤ 1
range_once v a zero = omega arith
range_once v a (suc n) =
    elim (cases_eq a v) [
      | inl same ↦ (let one = count_yes (λ k. k == v) a (range_with_len (a + 1) n) (eq-eqb a v same) in let rest = range_later v (a + 1) n (omega arith) in omega arith)
      | inr apart ↦ (let one = count_no (λ k. k == v) a (range_with_len (a + 1) n) (ne_eqb a v apart) in let rest = range_once v (a + 1) n in omega arith)
    ]
  where
    range_later : (v a n : ℕ) → v < a → count_by (λ k. k == v) (range_with_len a n) ≡ 0
    range_later v a zero lt = refl
    range_later v a (suc n) lt = count_no (λ k. k == v) a (range_with_len (a + 1) n) (ne_eqb a v (λ same. absurd (omega arith))) ∙ range_later v (a + 1) n (omega arith)

-- the jobs of a net: equations in an order, then registers
abbrev pub net_jobs : List Line → List ℕ → ℕ → List Formula → List Job
net_jobs lines order w fs = jobs lines (starts 0 (map (λ l. l.1) lines)) order ++ next_jobs w fs (starts (total (map (λ l. l.1) lines)) fs)

flat_joined : {X Y : Type 0} (g : X → List Y) (xs ys : List X) → flat_map g (xs ++ ys) ≡ flat_map g xs ++ flat_map g ys
flat_joined g [] ys = refl
flat_joined g (x ∷ xs) ys = ap (λ zs. g x ++ zs) (flat_joined g xs ys) ∙ sym (append_assoc (g x) (flat_map g xs) (flat_map g ys))

-- a number stands once among the numbers of all
pub number_once : (lines : List Line) (order : List ℕ) (w : ℕ) (fs : List Formula) → IsOrder lines order → (v : ℕ) → count_by (λ k. k == v) (job_numbers (net_jobs lines order w fs)) ≤ 1
number_once lines order w fs h v =
    let p = λ (k : ℕ). k == v in
    let g = λ (j : Job). range_with_len j.1 (operators j.0.1) in
    let first = jobs lines (starts 0 (map (λ l. l.1) lines)) order in
    let a = total (map (λ l. l.1) lines) in
    let next = next_jobs w fs (starts a fs) in
    let ordered : count_by p (job_numbers first) ≡ count_by p (range_with_len 0 a) =
    count_flat p g first ∙ (sum_jobs (λ j. count_by p (g j)) lines order h ∙ (sym (count_flat p g (all_jobs 0 lines)) ∙ ap (count_by p) (all_numbers 0 lines))) in
    let more : count_by p (job_numbers next) ≡ count_by p (range_with_len (0 + a) (total fs)) = ap (count_by p) (next_numbers w a fs) ∙ ap (λ k. count_by p (range_with_len k (total fs))) (sym (zero-add a)) in
    let both : count_by p (job_numbers (first ++ next)) ≡ count_by p (job_numbers first) + count_by p (job_numbers next) = ap (count_by p) (flat_joined g first next) ∙ count_append p (job_numbers first) (job_numbers next) in
    let row : count_by p (range_with_len 0 a) + count_by p (range_with_len (0 + a) (total fs)) ≡ count_by p (range_with_len 0 (a + total fs)) =
    sym (count_append p (range_with_len 0 a) (range_with_len (0 + a) (total fs))) ∙ ap (count_by p) (range_joined 0 a (total fs)) in
    let once = range_once v 0 (a + total fs) in
    omega arith

-- there are as many numbers as operators
pub number_count : (lines : List Line) (order : List ℕ) (w : ℕ) (fs : List Formula) → IsOrder lines order → length (job_numbers (net_jobs lines order w fs)) ≡ total (map (λ l. l.1) lines ++ fs)
number_count lines order w fs h =
    let g = λ (j : Job). range_with_len j.1 (operators j.0.1) in
    let first = jobs lines (starts 0 (map (λ l. l.1) lines)) order in
    let a = total (map (λ l. l.1) lines) in
    let next = next_jobs w fs (starts a fs) in
    let ordered : length (job_numbers first) ≡ a =
    length_flat g first ∙ (sum_jobs (λ j. length (g j)) lines order h ∙ (sym (length_flat g (all_jobs 0 lines)) ∙ (ap length (all_numbers 0 lines) ∙ length-range_with_len 0 a))) in
    let more : length (job_numbers next) ≡ total fs = ap length (next_numbers w a fs) ∙ length-range_with_len a (total fs) in
    let both : length (job_numbers (first ++ next)) ≡ length (job_numbers first) + length (job_numbers next) = ap length (flat_joined g first next) ∙ length-append (job_numbers first) (job_numbers next) in
    both ∙ (ap₂ (λ m n. m + n) ordered more ∙ sym (sum_by-append operators (map (λ l. l.1) lines) fs))

-- what stands once stands at one place
pub one_place : (xs : List ℕ) (v i j : ℕ) → count_by (λ k. k == v) xs ≤ 1 → slice_get xs i ≡ Some v → slice_get xs j ≡ Some v → i ≡ j
one_place [] v i j once at other = absurd (cc)
one_place (x ∷ xs) v zero zero once at other = refl
one_place (x ∷ xs) v zero (suc j) once at other =
    let same : x ≡ v = cc in
    let one = count_yes (λ k. k == v) x xs (eq-eqb x v same) in
    let more = count_some (λ k. k == v) xs (any_at (λ k. k == v) xs j v other (eq-eqb v v refl)) in
    absurd (omega arith)
one_place (x ∷ xs) v (suc i) zero once at other =
    let same : x ≡ v = cc in
    let one = count_yes (λ k. k == v) x xs (eq-eqb x v same) in
    let more = count_some (λ k. k == v) xs (any_at (λ k. k == v) xs i v at (eq-eqb v v refl)) in
    absurd (omega arith)
one_place (x ∷ xs) v (suc i) (suc j) once at other =
    let fewer : count_by (λ k. k == v) xs ≤ count_by (λ k. k == v) (x ∷ xs) = elim (cases_Bool (x == v)) [
      | inl same ↦ (let one = count_yes (λ k. k == v) x xs same in omega arith)
      | inr apart ↦ (let one = count_no (λ k. k == v) x xs apart in omega arith)
    ] in
    ap suc (one_place xs v i j (omega arith) at other)
