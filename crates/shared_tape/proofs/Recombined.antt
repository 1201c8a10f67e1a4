-- Shares recombine to the values that they were made of.
use Rattle.std.proofs.Common.{◌≡◌, ◌≤◌, ◌+◌, ◌++◌, ℕ, suc, Bool, true, false, List, [], ◌∷◌, map, length, reverse, nat_lt, refl, sym, ap, ap₂, ◌∙◌, arith, zero-add}
use Rattle.std.specs.Prelude.{slice_index_or}
use Rattle.std.specs.List.{range_with_len}
use Rattle.std.proofs.lemmas.Bool.{cond-true, cond-false, lt-ltb, ltb-true, false_from_ne_true}
use Rattle.std.proofs.lemmas.List.{map-append, reverse-append}
use Rattle.agm_net.specs.Formula.{xor}
use Rattle.agm_net.specs.Trace.{Row}
use Rattle.share_wiring.specs.Recombine.{xor_below, recombined_rows}
use Rattle.share_wiring.proofs.Ports.{rows_recombine}
use Rattle.share_wiring.proofs.Recombine.{xor_same}
use Rattle.shared_tape.specs.Sharing.{drawn, share_bit, share_row}

xor_back : (x v : Bool) → xor x (xor v x) ≡ v
xor_back false false = refl
xor_back false true = refl
xor_back true false = refl
xor_back true true = refl

not_below : (d : ℕ) → nat_lt d d ≡ false
not_below d = false_from_ne_true (nat_lt d d) (λ h. (let lt = ltb-true d d h in absurd (omega (arith, lt))))

one_value : (draws : Row) (d b : ℕ) (value : Bool) → xor_below (suc d) (share_bit draws d b value) ≡ value
one_value draws d b value =
    let sum = xor_below d (drawn draws d b) in
    let first : xor_below d (share_bit draws d b value) ≡ sum = xor_same d (share_bit draws d b value) (drawn draws d b) (λ i lt. cond-true (nat_lt i d) (drawn draws d b i) (xor value sum) (lt-ltb i d lt)) in
    let last : share_bit draws d b value d ≡ xor value sum = cond-false (nat_lt d d) (drawn draws d b d) (xor value sum) (not_below d) in
    ap₂ xor first last ∙ xor_back sum value

read_all : (xs : Row) (f : ℕ → Bool) (a : ℕ) → ((k : ℕ) → f (a + k) ≡ slice_index_or xs k false) → map f (range_with_len a (length xs)) ≡ xs
read_all [] f a h = refl
read_all (x ∷ xs) f a h =
    let here : a ≡ a + 0 = omega arith in
    ap₂ (λ y ys. y ∷ ys) (ap f here ∙ h 0) (read_all xs f (a + 1) (λ k. (let next : a + 1 + k ≡ a + suc k = omega arith in ap f next ∙ h (suc k))))

pub recombines : (draws : Row) (d first : ℕ) (values : Row) (row : ℕ → Row) → ((i : ℕ) → i ≤ d → row i ≡ share_row draws d first values i) → recombined_rows d row ≡ values
recombines draws d first values row are =
    let bit : ℕ → ℕ → Bool = λ b i. share_bit draws d (first + b) (slice_index_or values b false) i in
    rows_recombine d bit (range_with_len 0 (length values)) row (λ i lt. are i (omega (arith, lt)))
    ∙ read_all values (λ w. xor_below (suc d) (bit w)) 0 (λ k. ap (λ b. xor_below (suc d) (bit b)) (zero-add k) ∙ one_value draws d (first + k) (slice_index_or values k false))

map-reverse : {X Y : Type 0} (f : X → Y) (xs : List X) → map f (reverse xs) ≡ reverse (map f xs)
map-reverse f [] = refl
map-reverse f (x ∷ xs) =
    ap (map f) (reverse-append (x ∷ []) xs) ∙ (map-append f (reverse xs) (x ∷ []) ∙ (ap (λ ys. ys ++ f x ∷ []) (map-reverse f xs) ∙ sym (reverse-append (f x ∷ []) (map f xs))))

-- the same where each share has the last value first
pub recombines_falling : (draws : Row) (d first : ℕ) (values : Row) (row : ℕ → Row) → ((i : ℕ) → i ≤ d → row i ≡ reverse (share_row draws d first values i)) → recombined_rows d row ≡ reverse values
recombines_falling draws d first values row are =
    let bit : ℕ → ℕ → Bool = λ b i. share_bit draws d (first + b) (slice_index_or values b false) i in
    let places = range_with_len 0 (length values) in
    let f : ℕ → Bool = λ w. xor_below (suc d) (bit w) in
    rows_recombine d bit (reverse places) row (λ i lt. are i (omega (arith, lt)) ∙ sym (map-reverse (λ b. bit b i) places))
    ∙ (map-reverse f places ∙ ap reverse (read_all values f 0 (λ k. ap f (zero-add k) ∙ one_value draws d (first + k) (slice_index_or values k false))))
