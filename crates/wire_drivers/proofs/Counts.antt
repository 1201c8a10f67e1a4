-- How often wires stand in a list.
use Rattle.std.proofs.Common.{◌≡◌, ◌≢◌, ℕ, ◌+◌, ◌<◌, ◌≤◌, Bool, cond, List, [], ◌∷◌, ◌++◌, length, get_or, map, fold, replicate, refl, ap, sym, subst, ◌∙◌, arith}
use Rattle.std.specs.Prelude.{◌==◌, count_by}
use Rattle.std.proofs.lemmas.Bool.{cases_eq, eq-eqb, ne_eqb}
use Rattle.std.proofs.lemmas.List.{get_or-set_same, get_or-set_other, length-replicate, get_or-replicate}
use Rattle.std.proofs.Math.ListN.{length-set}
use Rattle.std.proofs.lemmas.List.Sums.{sum_by-cons}
use mathlib.Core.Logic.{⊎_elim}
use Rattle.wire_drivers.specs.Wiring.{times}
use Rattle.wire_drivers.specs.Counted.{counted, uses}

times-head : (w b : ℕ) (bs : List ℕ) → b ≡ w → times w (b ∷ bs) ≡ 1 + times w bs
times-head w b bs same = sum_by-cons _ b bs ∙ ap (λ (t : Bool). cond t 1 0 + times w bs) (eq-eqb b w same)

times-tail : (w b : ℕ) (bs : List ℕ) → b ≢ w → times w (b ∷ bs) ≡ times w bs
times-tail w b bs other = sum_by-cons _ b bs ∙ (ap (λ (t : Bool). cond t 1 0 + times w bs) (ne_eqb b w other) ∙ omega arith)

fold-length : (cs ws : List ℕ) → length (fold counted cs ws) ≡ length cs
fold-length cs [] = refl
fold-length cs (w ∷ ws) = fold-length (counted cs w) ws ∙ length-set cs w _

fold-times : (ws cs : List ℕ) (w : ℕ) → w < length cs → get_or (fold counted cs ws) w 0 ≡ get_or cs w 0 + times w ws
fold-times [] cs w within = omega arith
fold-times (b ∷ bs) cs w within =
    let long = length-set cs b (get_or cs b 0 + 1) in
    ⊎_elim
    (λ same.
    let here : get_or (counted cs b) w 0 ≡ get_or cs w 0 + 1 = subst (λ (v : ℕ). get_or (counted cs v) w 0 ≡ get_or cs w 0 + 1) (sym same) (get_or-set_same cs w _ 0 within) in
    let rest = fold-times bs (counted cs b) w (omega arith) in
    let more = times-head w b bs same in
    rest ∙ omega arith)
    (λ other.
    let here : get_or (counted cs b) w 0 ≡ get_or cs w 0 = get_or-set_other cs b w _ 0 (λ e. other (sym e)) in
    let rest = fold-times bs (counted cs b) w (omega arith) in
    let more = times-tail w b bs other in
    rest ∙ omega arith)
    (cases_eq b w)

pub uses_length : (n : ℕ) (ws : List ℕ) → length (uses n ws) ≡ n
uses_length n ws = fold-length (replicate n 0) ws ∙ length-replicate n 0

pub uses_times : (n : ℕ) (ws : List ℕ) (w : ℕ) → w < n → get_or (uses n ws) w 0 ≡ times w ws
uses_times n ws w within =
    let zeros : List ℕ = replicate n 0 in
    let long : length zeros ≡ n = length-replicate n 0 in
    let none : get_or zeros w 0 ≡ 0 = get_or-replicate n w 0 0 within in
    fold-times ws zeros w (omega arith) ∙ ap (λ (k : ℕ). k + times w ws) none ∙ omega arith
