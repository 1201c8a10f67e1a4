-- Numbers in a row: one more, and functions that agree on them.
use Rattle.std.proofs.Common.{◌≡◌, ◌≤◌, ◌<◌, ◌+◌, ◌-◌, ℕ, zero, suc, Bool, true, false, cond, List, [], ◌∷◌, ◌++◌, Option, Some, None, map, refl, ap, sym, ◌∙◌, append-nil, arith}
use Rattle.std.specs.Prelude.{count_by}
use Rattle.std.specs.List.{flat_map, range_with_len, find}
use Rattle.std.proofs.lemmas.List.Sums.{sum_by-cons, sum_by-append}
use Rattle.std.proofs.lemmas.List.FromFn.{map-range_with_len_more}
use Rattle.std.proofs.lemmas.Grind.{flat_map-append}
use Rattle.std.specs.Option.{option_map}
use Rattle.wire_drivers.specs.Counted.{number_at, numbers_at, is_kept_at}

pub range_on : (w n : ℕ) → w < n → range_with_len w (n - w) ≡ w ∷ range_with_len (w + 1) (n - (w + 1))
range_on w n h = let e : n - w ≡ suc (n - (w + 1)) = omega arith in ap (λ k. range_with_len w k) e

range_append : (a n : ℕ) → range_with_len a (n + 1) ≡ range_with_len a n ++ (a + n) ∷ []
range_append a zero = let e : a ≡ a + 0 = omega arith in ap (λ (k : ℕ). k ∷ []) e
range_append a (suc n) = let e : a + 1 + n ≡ a + suc n = omega arith in let o : suc n + 1 ≡ suc (n + 1) = omega arith in ap (λ k. range_with_len a k) o ∙ ap (λ xs. a ∷ xs) (range_append (a + 1) n ∙ ap (λ (k : ℕ). range_with_len (a + 1) n ++ k ∷ []) e)

plus_none : (n : ℕ) → n + 0 ≡ n
plus_none n = omega arith

one_count : (p : ℕ → Bool) (w : ℕ) → count_by p (w ∷ []) ≡ cond (p w) 1 0
one_count p w = sum_by-cons (λ x. cond (p x) 1 0) w [] ∙ plus_none (cond (p w) 1 0)

pub number_more : (ds : List ℕ) (w : ℕ) → number_at ds (w + 1) ≡ number_at ds w + cond (is_kept_at ds w) 1 0
number_more ds w =
    let e : 0 + w ≡ w = omega arith in
    ap (λ xs. count_by (is_kept_at ds) xs) (range_append 0 w)
    ∙ (sum_by-append _ (range_with_len 0 w) ((0 + w) ∷ [])
    ∙ (ap (λ (k : ℕ). number_at ds w + count_by (is_kept_at ds) (k ∷ [])) e
    ∙ ap (λ (n : ℕ). number_at ds w + n) (one_count (is_kept_at ds) w)))

pub numbers_on : (new old : List ℕ) (next : ℕ) (ds : List ℕ) (w : ℕ) → old ≡ numbers_at ds w → next ≡ number_at ds w → new ≡ old ++ next ∷ [] → new ≡ numbers_at ds (w + 1)
numbers_on new old next ds w was is now =
    let more : numbers_at ds (w + 1) ≡ numbers_at ds w ++ number_at ds w ∷ [] = map-range_with_len_more (number_at ds) 0 w w (omega arith) in
    cc

pub find_on : (p : ℕ → Bool) (w n : ℕ) (whole : Option ℕ) → w < n → p w ≡ false → find p (range_with_len w (n - w)) ≡ whole → find p (range_with_len (w + 1) (n - (w + 1))) ≡ whole
find_on p w n whole h fails was =
    ap (λ (b : Bool). cond b (Some w) (find p (range_with_len (w + 1) (n - (w + 1))))) (sym fails) ∙ (ap (λ xs. find p xs) (sym (range_on w n h)) ∙ was)

pub map_agree : {X : Type 0} (f g : ℕ → X) (a n : ℕ) → ((w : ℕ) → a ≤ w → w < a + n → f w ≡ g w) → map f (range_with_len a n) ≡ map g (range_with_len a n)
map_agree f g a zero h = refl
map_agree f g a (suc n) h =
    let here = h a (omega arith) (omega arith) in
    let rest = map_agree f g (a + 1) n (λ w p q. h w (omega arith) (omega arith)) in cc

pub count_agree : (f g : ℕ → Bool) (a n : ℕ) → ((w : ℕ) → a ≤ w → w < a + n → f w ≡ g w) → count_by f (range_with_len a n) ≡ count_by g (range_with_len a n)
count_agree f g a zero h = refl
count_agree f g a (suc n) h =
    let here = h a (omega arith) (omega arith) in
    let rest = count_agree f g (a + 1) n (λ w p q. h w (omega arith) (omega arith)) in
    sum_by-cons _ a (range_with_len (a + 1) n)
    ∙ (ap (λ (b : Bool). cond b 1 0 + count_by f (range_with_len (a + 1) n)) here
    ∙ (ap (λ (k : ℕ). cond (g a) 1 0 + k) rest ∙ sym (sum_by-cons _ a (range_with_len (a + 1) n))))

-- the first that passes, and what is found of it
found_case : {X : Type 0} (b c : Bool) (x y : X) (o p : Option X) → b ≡ c → x ≡ y → o ≡ p → cond b (Some x) o ≡ cond c (Some y) p
found_case b c x y o p e f g = cc

map_cond : {X : Type 0} (u : ℕ → X) (b : Bool) (a : ℕ) (o : Option ℕ) → option_map u (cond b (Some a) o) ≡ cond b (Some (u a)) (option_map u o)
map_cond u true a o = refl
map_cond u false a o = refl

pub found_agree : {X : Type 0} (f g : ℕ → Bool) (u v : ℕ → X) (a n : ℕ) → ((w : ℕ) → a ≤ w → w < a + n → (f w ≡ g w) × (u w ≡ v w))
    → option_map u (find f (range_with_len a n)) ≡ option_map v (find g (range_with_len a n))
found_agree f g u v a zero h = refl
found_agree f g u v a (suc n) h =
    let here = h a (omega arith) (omega arith) in
    let rest = found_agree f g u v (a + 1) n (λ w p q. h w (omega arith) (omega arith)) in
    map_cond u (f a) a (find f (range_with_len (a + 1) n))
    ∙ (found_case (f a) (g a) (u a) (v a) _ _ here.0 here.1 rest ∙ sym (map_cond v (g a) a (find g (range_with_len (a + 1) n))))

pub flat_agree : {X : Type 0} (f g : ℕ → List X) (a n : ℕ) → ((w : ℕ) → a ≤ w → w < a + n → f w ≡ g w) → flat_map f (range_with_len a n) ≡ flat_map g (range_with_len a n)
flat_agree f g a zero h = refl
flat_agree f g a (suc n) h =
    let here = h a (omega arith) (omega arith) in
    let rest = flat_agree f g (a + 1) n (λ w p q. h w (omega arith) (omega arith)) in
    ap (λ xs. xs ++ flat_map f (range_with_len (a + 1) n)) here ∙ ap (λ xs. g a ++ xs) rest

pub flat_more : {X : Type 0} (f : ℕ → List X) (n : ℕ) → flat_map f (range_with_len 0 (n + 1)) ≡ flat_map f (range_with_len 0 n) ++ f n
flat_more f n =
    let e : 0 + n ≡ n = omega arith in
    ap (λ xs. flat_map f xs) (range_append 0 n)
    ∙ (flat_map-append f (range_with_len 0 n) ((0 + n) ∷ []) ∙ ap (λ xs. flat_map f (range_with_len 0 n) ++ xs) (append-nil (f (0 + n)) ∙ ap f e))

cond_small : (b : Bool) → cond b 1 0 ≤ 1
cond_small true = omega arith
cond_small false = omega arith

pub number_small : (ds : List ℕ) (w : ℕ) → number_at ds w ≤ w
number_small ds zero = omega arith
number_small ds (suc w) =
    let e : suc w ≡ w + 1 = omega arith in
    let more : number_at ds (suc w) ≡ number_at ds w + cond (is_kept_at ds w) 1 0 = ap (λ k. number_at ds k) e ∙ number_more ds w in
    let rest = number_small ds w in
    let one = cond_small (is_kept_at ds w) in omega arith
