-- Formulas over rows of bits that agree.
use Rattle.std.proofs.Common.{◌≡◌, ◌<◌, ℕ, Bool, true, false, not, ◌&&◌, ◌||◌, IsTrue, nat_lt, refl, sym, ap, ◌∙◌, inl, inr, eq-eqb, ltb-true}
use Rattle.std.proofs.lemmas.Bool.{eqb-true, or_cases, or_left, or_right, and_parts}
use Rattle.agm_net.specs.Formula.{Formula, f_zero, f_one, f_wire, f_not, f_and, f_or, f_xor, f_mux, value, stands, reads_below}

-- two rows agree on the known wires
abbrev pub Agree : (ℕ → Bool) → (ℕ → Bool) → (ℕ → Bool) → Type 0
Agree known x y = (w : ℕ) → IsTrue (known w) → x w ≡ y w

-- rows that agree on the wires of a formula give it one value
pub same_value : (x y : ℕ → Bool) (f : Formula) → Agree (λ w. stands w f) x y → value x f ≡ value y f
same_value x y f_zero a = refl
same_value x y f_one a = refl
same_value x y (f_wire w) a = a w (eq-eqb w w refl)
same_value x y (f_not f) a = ap not (same_value x y f a)
same_value x y (f_and f g) a =
    let left = same_value x y f (λ w h. a w (or_left (stands w f) (stands w g) h)) in
    let right = same_value x y g (λ w h. a w (or_right (stands w f) (stands w g) h)) in cc
same_value x y (f_or f g) a =
    let left = same_value x y f (λ w h. a w (or_left (stands w f) (stands w g) h)) in
    let right = same_value x y g (λ w h. a w (or_right (stands w f) (stands w g) h)) in cc
same_value x y (f_xor f g) a =
    let left = same_value x y f (λ w h. a w (or_left (stands w f) (stands w g) h)) in
    let right = same_value x y g (λ w h. a w (or_right (stands w f) (stands w g) h)) in cc
same_value x y (f_mux s f g) a =
    let test = same_value x y s (λ w h. a w (or_left (stands w s) (stands w f || stands w g) h)) in
    let left = same_value x y f (λ w h. a w (or_right (stands w s) (stands w f || stands w g) (or_left (stands w f) (stands w g) h))) in
    let right = same_value x y g (λ w h. a w (or_right (stands w s) (stands w f || stands w g) (or_right (stands w f) (stands w g) h))) in cc

-- a wire that stands in a formula over the wires below n is below n
pub reads_are_below : (n : ℕ) (f : Formula) → IsTrue (reads_below n f) → (w : ℕ) → IsTrue (stands w f) → w < n
reads_are_below n f_zero below w h = absurd (let no : false ≡ true = h in cc)
reads_are_below n f_one below w h = absurd (let no : false ≡ true = h in cc)
reads_are_below n (f_wire v) below w h = let same : v ≡ w = eqb-true v w h in ltb-true w n (ap (λ u. nat_lt u n) (sym same) ∙ below)
reads_are_below n (f_not f) below w h = reads_are_below n f below w h
reads_are_below n (f_and f g) below w h =
    let both = and_parts (reads_below n f) (reads_below n g) below in
    elim (or_cases (stands w f) (stands w g) h) [ inl left ↦ reads_are_below n f both.0 w left | inr right ↦ reads_are_below n g both.1 w right ]
reads_are_below n (f_or f g) below w h =
    let both = and_parts (reads_below n f) (reads_below n g) below in
    elim (or_cases (stands w f) (stands w g) h) [ inl left ↦ reads_are_below n f both.0 w left | inr right ↦ reads_are_below n g both.1 w right ]
reads_are_below n (f_xor f g) below w h =
    let both = and_parts (reads_below n f) (reads_below n g) below in
    elim (or_cases (stands w f) (stands w g) h) [ inl left ↦ reads_are_below n f both.0 w left | inr right ↦ reads_are_below n g both.1 w right ]
reads_are_below n (f_mux s f g) below w h =
    let all = and_parts (reads_below n s) (reads_below n f && reads_below n g) below in
    let both = and_parts (reads_below n f) (reads_below n g) all.1 in
    elim (or_cases (stands w s) (stands w f || stands w g) h) [
      | inl test ↦ reads_are_below n s all.0 w test
      | inr rest ↦ elim (or_cases (stands w f) (stands w g) rest) [ inl left ↦ reads_are_below n f both.0 w left | inr right ↦ reads_are_below n g both.1 w right ]
    ]
