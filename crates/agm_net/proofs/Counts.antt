-- How often wires stand in a list.
use Rattle.std.proofs.Common.{◌≡◌, ◌≢◌, ℕ, ◌+◌, ◌<◌, ◌≤◌, Bool, cond, List, [], ◌∷◌, ◌++◌, length, get_or, map, fold, min, replicate, refl, ap, sym, subst, ◌∙◌, arith}
use Rattle.std.specs.Prelude.{◌==◌, count_by}
use Rattle.std.proofs.lemmas.Bool.{cases_eq, eq-eqb, ne_eqb}
use Rattle.std.proofs.lemmas.List.{get_or-set_same, get_or-set_other, length-replicate, get_or-replicate}
use Rattle.std.proofs.Math.ListN.{length-set}
use Rattle.std.proofs.lemmas.List.Sums.{sum_by-append, sum_by-cons}
use mathlib.Core.Logic.{⊎_elim}
use Rattle.agm_net.specs.Checks.{counted, uses}

abbrev pub count : ℕ → List ℕ → ℕ
count w ws = count_by (λ b. b == w) ws

pub count-append : (w : ℕ) (xs ys : List ℕ) → count w (xs ++ ys) ≡ count w xs + count w ys
count-append w xs ys = sum_by-append _ xs ys

pub count-head : (w b : ℕ) (bs : List ℕ) → b ≡ w → count w (b ∷ bs) ≡ 1 + count w bs
count-head w b bs same = sum_by-cons _ b bs ∙ ap (λ (t : Bool). cond t 1 0 + count w bs) (eq-eqb b w same)

pub count-tail : (w b : ℕ) (bs : List ℕ) → b ≢ w → count w (b ∷ bs) ≡ count w bs
count-tail w b bs other = sum_by-cons _ b bs ∙ (ap (λ (t : Bool). cond t 1 0 + count w bs) (ne_eqb b w other) ∙ omega arith)

pub count-map : {X Y : Type 0} (p : Y → Bool) (f : X → Y) (xs : List X) → count_by p (map f xs) ≡ count_by (λ x. p (f x)) xs
count-map p f [] = refl
count-map p f (x ∷ xs) = sum_by-cons _ (f x) (map f xs) ∙ (ap (λ (n : ℕ). cond (p (f x)) 1 0 + n) (count-map p f xs) ∙ sym (sum_by-cons _ x xs))

fold-length : (cs ws : List ℕ) → length (fold counted cs ws) ≡ length cs
fold-length cs [] = refl
fold-length cs (w ∷ ws) = fold-length (counted cs w) ws ∙ length-set cs w _

-- the count of a wire after those of a list are counted
fold-count : (ws cs : List ℕ) (w : ℕ) → w < length cs → get_or cs w 0 ≤ 255 → get_or (fold counted cs ws) w 0 ≡ min (get_or cs w 0 + count w ws) 255
fold-count [] cs w within small = omega arith
fold-count (b ∷ bs) cs w within small =
    let long = length-set cs b (min (get_or cs b 0 + 1) 255) in
    ⊎_elim
    (λ same.
    let here : get_or (counted cs b) w 0 ≡ min (get_or cs w 0 + 1) 255 = subst (λ (v : ℕ). get_or (counted cs v) w 0 ≡ min (get_or cs w 0 + 1) 255) (sym same) (get_or-set_same cs w _ 0 within) in
    let rest = fold-count bs (counted cs b) w (omega arith) (omega arith) in
    let more = count-head w b bs same in
    rest ∙ omega arith)
    (λ other.
    let here : get_or (counted cs b) w 0 ≡ get_or cs w 0 = get_or-set_other cs b w _ 0 (λ e. other (sym e)) in
    let rest = fold-count bs (counted cs b) w (omega arith) (omega arith) in
    let more = count-tail w b bs other in
    rest ∙ omega arith)
    (cases_eq b w)

pub uses-length : (n : ℕ) (ws : List ℕ) → length (uses n ws) ≡ n
uses-length n ws = fold-length (replicate n 0) ws ∙ length-replicate n 0

pub uses-count : (n : ℕ) (ws : List ℕ) (w : ℕ) → w < n → get_or (uses n ws) w 0 ≡ min (count w ws) 255
uses-count n ws w within =
    let zeros : List ℕ = replicate n 0 in
    let long : length zeros ≡ n = length-replicate n 0 in
    let none : get_or zeros w 0 ≡ 0 = get_or-replicate n w 0 0 within in
    fold-count ws zeros w (omega arith) (omega arith) ∙ ap (λ (k : ℕ). min (k + count w ws) 255) none ∙ omega arith
