-- The recombined shares of a wire solve the equations that the shares were made from.
use Rattle.std.proofs.Common.{◌≡◌, ◌<◌, ℕ, zero, suc, Bool, true, false, refl, ap, ◌∙◌, arith}
use Rattle.agm_net.specs.Formula.{xor}
use Rattle.share_wiring.specs.Recombine.{xor_below}

-- exclusive ors in another order
pub xor_swap : (a b x y : Bool) → xor (xor a b) (xor x y) ≡ xor (xor a x) (xor b y)
xor_swap false false x y = refl
xor_swap false true false y = refl
xor_swap false true true false = refl
xor_swap false true true true = refl
xor_swap true false false y = refl
xor_swap true false true false = refl
xor_swap true false true true = refl
xor_swap true true false false = refl
xor_swap true true false true = refl
xor_swap true true true false = refl
xor_swap true true true true = refl

-- shares with the same bits recombine to the same
pub xor_same : (n : ℕ) (f g : ℕ → Bool) → ((i : ℕ) → i < n → f i ≡ g i) → xor_below n f ≡ xor_below n g
xor_same zero f g h = refl
xor_same (suc n) f g h =
    let before = xor_same n f g (λ i lt. h i (omega arith)) in
    let last : f n ≡ g n = h n (omega arith) in cc

-- an exclusive or share by share
pub xor_of_xors : (n : ℕ) (f g : ℕ → Bool) → xor_below n (λ i. xor (f i) (g i)) ≡ xor (xor_below n f) (xor_below n g)
xor_of_xors zero f g = refl
xor_of_xors (suc n) f g = ap (λ x. xor x (xor (f n) (g n))) (xor_of_xors n f g) ∙ xor_swap (xor_below n f) (xor_below n g) (f n) (g n)
