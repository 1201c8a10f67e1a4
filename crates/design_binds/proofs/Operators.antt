-- The equations and registers of a plain net, by their operators.
use Rattle.std.proofs.Common.{◌≡◌, ◌<◌, ◌&&◌, ℕ, true, List, [], ◌∷◌, nat_lt, sym, ap, ◌∙◌, subst}
use Rattle.std.specs.List.{AllByRecursion, list_all}
use Rattle.std.proofs.lemmas.Bool.{and_parts, ltb-true}
use Rattle.agm_net.specs.Formula.{Formula, f_zero, f_one, f_wire, f_not, f_and, f_or, f_xor, f_mux, reads_below}
use Rattle.agm_net.specs.Plain.{Line, Stored}
use Rattle.agm_net.specs.PlainForm.{IsWire, IsOneOperator, IsNextOf}

-- an equation of one operator, whose numbers are below n
pub data IsLine (n : ℕ) : (w : ℕ) → Formula → Type 0 where
  zero_line : (w : ℕ) → w < n → IsLine n w f_zero
  one_line : (w : ℕ) → w < n → IsLine n w f_one
  wire_line : (w a : ℕ) → w < n → a < n → IsLine n w (f_wire a)
  not_line : (w a : ℕ) → w < n → a < n → IsLine n w (f_not (f_wire a))
  and_line : (w a b : ℕ) → w < n → a < n → b < n → IsLine n w (f_and (f_wire a) (f_wire b))
  or_line : (w a b : ℕ) → w < n → a < n → b < n → IsLine n w (f_or (f_wire a) (f_wire b))
  xor_line : (w a b : ℕ) → w < n → a < n → b < n → IsLine n w (f_xor (f_wire a) (f_wire b))
  mux_line : (w s a b : ℕ) → w < n → s < n → a < n → b < n → IsLine n w (f_mux (f_wire s) (f_wire a) (f_wire b))

-- the wire that a formula is
wire_below : (n : ℕ) (x : Formula) (is : IsWire x) → reads_below n x ≡ true → is.0 < n
wire_below n x is h = ltb-true is.0 n (ap (reads_below n) (sym is.1) ∙ h)

two : (n : ℕ) (P : Formula → Formula → Type 0) (x y : Formula) (a : IsWire x) (b : IsWire y) → P (f_wire a.0) (f_wire b.0) → P x y
two n P x y a b h = subst (λ u. P u y) (sym a.1) (subst (λ v. P (f_wire a.0) v) (sym b.1) h)

line_of : (n w : ℕ) (f : Formula) → IsOneOperator f → w < n → reads_below n f ≡ true → IsLine n w f
line_of n w f_zero op lt h = zero_line w lt
line_of n w f_one op lt h = one_line w lt
line_of n w (f_wire a) op lt h = wire_line w a lt (ltb-true a n h)
line_of n w (f_not x) op lt h = subst (λ u. IsLine n w (f_not u)) (sym op.1) (not_line w op.0 lt (wire_below n x op h))
line_of n w (f_and x y) op lt h =
    let p = and_parts (reads_below n x) (reads_below n y) h in
    two n (λ u v. IsLine n w (f_and u v)) x y op.0 op.1 (and_line w op.0.0 op.1.0 lt (wire_below n x op.0 p.0) (wire_below n y op.1 p.1))
line_of n w (f_or x y) op lt h =
    let p = and_parts (reads_below n x) (reads_below n y) h in
    two n (λ u v. IsLine n w (f_or u v)) x y op.0 op.1 (or_line w op.0.0 op.1.0 lt (wire_below n x op.0 p.0) (wire_below n y op.1 p.1))
line_of n w (f_xor x y) op lt h =
    let p = and_parts (reads_below n x) (reads_below n y) h in
    two n (λ u v. IsLine n w (f_xor u v)) x y op.0 op.1 (xor_line w op.0.0 op.1.0 lt (wire_below n x op.0 p.0) (wire_below n y op.1 p.1))
line_of n w (f_mux s x y) op lt h =
    let p = and_parts (reads_below n s) (reads_below n x && reads_below n y) h in
    let q = and_parts (reads_below n x) (reads_below n y) p.1 in
    subst (λ t. IsLine n w (f_mux t x y)) (sym op.0.1)
    (two n (λ u v. IsLine n w (f_mux (f_wire op.0.0) u v)) x y op.1 op.2
    (mux_line w op.0.0 op.1.0 op.2.0 lt (wire_below n s op.0 p.0) (wire_below n x op.1 q.0) (wire_below n y op.2 q.1)))

pub lines_of : (n : ℕ) (ls : List Line) → AllByRecursion (λ l. IsOneOperator l.1) ls → list_all (λ l. nat_lt l.0 n && reads_below n l.1) ls ≡ true → AllByRecursion (λ l. IsLine n l.0 l.1) ls
lines_of n [] op h = tt
lines_of n (l ∷ ls) op h =
    let p = and_parts (nat_lt l.0 n && reads_below n l.1) (list_all (λ m. nat_lt m.0 n && reads_below n m.1) ls) h in
    let q = and_parts (nat_lt l.0 n) (reads_below n l.1) p.0 in
    (line_of n l.0 l.1 op.0 (ltb-true l.0 n q.0) q.1, lines_of n ls op.1 p.1)

-- a register that stores a wire, or keeps its output where another wire is 0
pub data IsRegister (n : ℕ) : (q : ℕ) → Formula → (c : ℕ) → Type 0 where
  stores : (q d c : ℕ) → q < n → d < n → c < n → IsRegister n q (f_wire d) c
  keeps : (q e d c : ℕ) → q < n → e < n → d < n → c < n → IsRegister n q (f_mux (f_wire e) (f_wire q) (f_wire d)) c

register_of : (n q : ℕ) (f : Formula) (c : ℕ) → IsNextOf q f → q < n → reads_below n f ≡ true → c < n → IsRegister n q f c
register_of n q f_zero c is in_q h in_c = absurd is
register_of n q f_one c is in_q h in_c = absurd is
register_of n q (f_wire d) c is in_q h in_c = stores q d c in_q (ltb-true d n h) in_c
register_of n q (f_not x) c is in_q h in_c = absurd is
register_of n q (f_and x y) c is in_q h in_c = absurd is
register_of n q (f_or x y) c is in_q h in_c = absurd is
register_of n q (f_xor x y) c is in_q h in_c = absurd is
register_of n q (f_mux s x y) c is in_q h in_c =
    let p = and_parts (reads_below n s) (reads_below n x && reads_below n y) h in
    let r = and_parts (reads_below n x) (reads_below n y) p.1 in
    subst (λ t. IsRegister n q (f_mux t x y) c) (sym is.0.1)
    (subst (λ u. IsRegister n q (f_mux (f_wire is.0.0) u y) c) (sym is.1)
    (subst (λ v. IsRegister n q (f_mux (f_wire is.0.0) (f_wire q) v) c) (sym is.2.1)
    (keeps q is.0.0 is.2.0 c in_q (wire_below n s is.0 p.0) (wire_below n y is.2 r.1) in_c)))

pub registers_of : (n : ℕ) (rs : List Stored) → AllByRecursion (λ r. IsNextOf r.q r.next) rs → list_all (λ r. nat_lt r.q n && (reads_below n r.next && nat_lt r.clock n)) rs ≡ true → AllByRecursion (λ r. IsRegister n r.q r.next r.clock) rs
registers_of n [] is h = tt
registers_of n (r ∷ rs) is h =
    let p = and_parts (nat_lt r.q n && (reads_below n r.next && nat_lt r.clock n)) (list_all (λ s. nat_lt s.q n && (reads_below n s.next && nat_lt s.clock n)) rs) h in
    let a = and_parts (nat_lt r.q n) (reads_below n r.next && nat_lt r.clock n) p.0 in
    let b = and_parts (reads_below n r.next) (nat_lt r.clock n) a.1 in
    (register_of n r.q r.next r.clock is.0 (ltb-true r.q n a.0) b.0 (ltb-true r.clock n b.1), registers_of n rs is.1 p.1)
