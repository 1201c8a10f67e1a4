-- What the wires of a step recombine to.
use Rattle.std.proofs.Common.{◌≡◌, ◌<◌, ℕ, zero, suc, Bool, true, false, not, ◌&&◌, List, refl, ap, ◌∙◌, arith}
use Rattle.agm_net.specs.Formula.{xor}
use Rattle.share_wiring.specs.Recombine.{xor_below}
use Rattle.share_wiring.specs.Wiring.{Keeps, share}
use Rattle.share_wiring.specs.Own.{source_of}
use Rattle.share_wiring.specs.Adds.{Xors, Inverts, Masks, Holds, IsAlways}
use Rattle.share_wiring.specs.declared.gate.Step.TheVariants as step
use Rattle.share_wiring.proofs.Recombine.{xor_same, xor_of_xors}

-- a product with a bit
pub xor_of_ands : (n : ℕ) (x : Bool) (f : ℕ → Bool) → xor_below n (λ i. x && f i) ≡ x && xor_below n f
xor_of_ands zero false f = refl
xor_of_ands zero true f = refl
xor_of_ands (suc n) x f =
    let spread : (p q r : Bool) → xor (r && p) (r && q) ≡ r && xor p q = λ p q r. grind arith in
    ap (λ s. xor s (x && f n)) (xor_of_ands n x f) ∙ spread (xor_below n f) (f n) x

-- share 0 inverted
abbrev flipped : (ℕ → Bool) → ℕ → Bool
flipped f zero = not (f zero)
flipped f (suc i) = f (suc i)

xor_of_flipped : (n : ℕ) (f : ℕ → Bool) → xor_below (suc n) (flipped f) ≡ not (xor_below (suc n) f)
xor_of_flipped zero f = refl
xor_of_flipped (suc n) f =
    let out : (p q : Bool) → xor (not p) q ≡ not (xor p q) = λ p q. grind arith in
    ap (λ s. xor s (f (suc n))) (xor_of_flipped n f) ∙ out (xor_below (suc n) f) (f (suc n))

module _ (n cycles : ℕ) (bits : ℕ → ℕ → Bool) where
  pub xors : (x y z : List ℕ) → ((i : ℕ) → i < n → Keeps cycles bits (share z i) (source_of step.Xor i (share x i) (share y i))) → Xors n cycles bits x y z
  xors x y z kept t lt =
      xor_same n (λ i. bits t (share z i)) (λ i. xor (bits t (share x i)) (bits t (share y i))) (λ i h. kept i h t lt)
      ∙ xor_of_xors n (λ i. bits t (share x i)) (λ i. bits t (share y i))

  pub masks : (w : ℕ) (x y z : List ℕ) → ((i : ℕ) → i < n → Keeps cycles bits (share z i) (source_of (step.And w) i (share x i) (share y i))) → Masks n cycles bits w x z
  masks w x y z kept t lt =
      xor_same n (λ i. bits t (share z i)) (λ i. bits t w && bits t (share x i)) (λ i h. kept i h t lt)
      ∙ xor_of_ands n (bits t w) (λ i. bits t (share x i))

one_inverted : (cycles : ℕ) (bits : ℕ → ℕ → Bool) (x y z : List ℕ) (i t : ℕ) → t < cycles → Keeps cycles bits (share z i) (source_of step.Not i (share x i) (share y i)) → bits t (share z i) ≡ flipped (λ k. bits t (share x k)) i
one_inverted cycles bits x y z zero t lt h = h t lt
one_inverted cycles bits x y z (suc i) t lt h = h t lt

pub inverts : (n cycles : ℕ) (bits : ℕ → ℕ → Bool) (x y z : List ℕ) → 0 < n → ((i : ℕ) → i < n → Keeps cycles bits (share z i) (source_of step.Not i (share x i) (share y i))) → Inverts n cycles bits x z
inverts zero cycles bits x y z some kept t lt = absurd (omega arith)
inverts (suc n) cycles bits x y z some kept t lt =
    xor_same (suc n) (λ i. bits t (share z i)) (flipped (λ k. bits t (share x k))) (λ i h. one_inverted cycles bits x y z i t lt (kept i h))
    ∙ xor_of_flipped n (λ k. bits t (share x k))

-- share 0 and zeros
first_alone : (n : ℕ) (f : ℕ → Bool) → ((i : ℕ) → f (suc i) ≡ false) → xor_below (suc n) f ≡ f zero
first_alone zero f none = refl
first_alone (suc n) f none =
    let last : (p q : Bool) → q ≡ false → xor p q ≡ p = λ p q h. grind arith in
    last (xor_below (suc n) f) (f (suc n)) (none n) ∙ first_alone n f none

-- a wire as share 0
abbrev alone : Bool → ℕ → Bool
alone b zero = b
alone b (suc i) = false

one_alone : (cycles : ℕ) (bits : ℕ → ℕ → Bool) (x y z : List ℕ) (w i t : ℕ) → t < cycles → share x i ≡ w → Keeps cycles bits (share z i) (source_of step.First i (share x i) (share y i)) → bits t (share z i) ≡ alone (bits t w) i
one_alone cycles bits x y z w zero t lt is h = h t lt ∙ ap (bits t) is
one_alone cycles bits x y z w (suc i) t lt is h = h t lt

pub publics : (n cycles : ℕ) (bits : ℕ → ℕ → Bool) (w : ℕ) (x y z : List ℕ) → 0 < n → ((i : ℕ) → i < n → share x i ≡ w)
    → ((i : ℕ) → i < n → Keeps cycles bits (share z i) (source_of step.First i (share x i) (share y i))) → Holds n cycles bits w z
publics zero cycles bits w x y z some is kept t lt = absurd (omega arith)
publics (suc n) cycles bits w x y z some is kept t lt =
    xor_same (suc n) (λ i. bits t (share z i)) (alone (bits t w)) (λ i h. one_alone cycles bits x y z w i t lt (is i h) (kept i h))
    ∙ first_alone n (alone (bits t w)) (λ i. refl)

one_always : (cycles : ℕ) (bits : ℕ → ℕ → Bool) (x y z : List ℕ) (b : Bool) (i t : ℕ) → t < cycles → Keeps cycles bits (share z i) (source_of (step.Constant b) i (share x i) (share y i)) → bits t (share z i) ≡ alone b i
one_always cycles bits x y z true zero t lt h = h t lt
one_always cycles bits x y z false zero t lt h = h t lt
one_always cycles bits x y z b (suc i) t lt h = h t lt

pub always : (n cycles : ℕ) (bits : ℕ → ℕ → Bool) (b : Bool) (x y z : List ℕ) → 0 < n
    → ((i : ℕ) → i < n → Keeps cycles bits (share z i) (source_of (step.Constant b) i (share x i) (share y i))) → IsAlways n cycles bits b z
always zero cycles bits b x y z some kept t lt = absurd (omega arith)
always (suc n) cycles bits b x y z some kept t lt =
    xor_same (suc n) (λ i. bits t (share z i)) (alone b) (λ i h. one_always cycles bits x y z b i t lt (kept i h))
    ∙ first_alone n (alone b) (λ i. refl)
