-- The products of shares.
use Rattle.std.proofs.Common.{◌≡◌, ℕ, zero, suc, Bool, ◌&&◌, refl, ap, ◌∙◌, arith}
use Rattle.agm_net.specs.Formula.{xor}
use Rattle.share_wiring.specs.Recombine.{xor_below}
use Rattle.share_wiring.proofs.Recombine.{xor_of_xors}
use Rattle.share_wiring.proofs.StepValues.{xor_of_ands}
use Rattle.hpc2_gadget.specs.Product.{pair, squares, pairs}

and_left : (n : ℕ) (f : ℕ → Bool) (y : Bool) → xor_below n (λ i. f i && y) ≡ xor_below n f && y
and_left zero f y = refl
and_left (suc n) f y =
    let rest = and_left n f y in
    let a = xor_below n f in
    let step : (p q r : Bool) → xor (p && r) (q && r) ≡ xor p q && r = λ p q r. grind arith in
    ap (λ x. xor x (f n && y)) rest ∙ step a (f n) y

regroup : (p q A B a b : Bool) → xor p q ≡ A && B → xor (xor p (a && b)) (xor q (xor (A && b) (a && B))) ≡ xor A a && xor B b
regroup p q A B a b h = grind arith

-- the squares and the pairs are the product, for every number of shares
pub product : (n : ℕ) (a b : ℕ → Bool) → xor (squares n a b) (pairs n a b) ≡ xor_below n a && xor_below n b
product zero a b = refl
product (suc n) a b =
    let A = xor_below n a in
    let B = xor_below n b in
    let row : xor_below n (λ i. pair a b i n) ≡ xor (A && b n) (a n && B) =
    xor_of_xors n (λ i. a i && b n) (λ i. a n && b i)
    ∙ (ap (λ s. xor s (xor_below n (λ i. a n && b i))) (and_left n a (b n)) ∙ ap (λ s. xor (A && b n) s) (xor_of_ands n (a n) b)) in
    ap (λ s. xor (xor (squares n a b) (a n && b n)) (xor (pairs n a b) s)) row
    ∙ regroup (squares n a b) (pairs n a b) A B (a n) (b n) (product n a b)
