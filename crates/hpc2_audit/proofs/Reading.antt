-- Who reads a wire, as it is noted equation by equation.
use Rattle.std.proofs.Common.{◌≡◌, ◌≢◌, ◌<◌, ◌⊎◌, ℕ, zero, suc, Bool, true, false, cond, IsTrue, List, [], ◌∷◌, Some, length, slice_get, refl, sym, ap, subst, inl, inr, ◌∙◌, arith, eq-eqb, get_or-set_same, get_or-set_other}
use Rattle.std.specs.Prelude.{◌==◌, ◌&&◌, ◌||◌}
use Rattle.std.specs.List.{list_any}
use Rattle.std.proofs.Math.ListN.{length-set}
use Rattle.std.proofs.lemmas.Bool.{cases_Bool, cases_lt, eqb-true, eqb-false, and_parts, and_from}
use Rattle.agm_net.specs.Formula.{Formula, f_zero, f_one, f_wire, f_not, f_and, f_or, f_xor, f_mux, stands}
use Rattle.agm_net.specs.Label.{is_reader}
use Rattle.agm_net.specs.Plain.{Line, Stored, PlainNet}
use Rattle.agm_net.specs.Run.{Driver, d_input, d_clock, d_equation, d_register, d_nothing, HasDriver, driver, reads_ever}
use Rattle.agm_net.specs.WellFormed.{WellFormed}
use Rattle.agm_net.proofs.Driving.{is_driven, is_driver, undriven}
use Rattle.agm_net.proofs.Lists.{any_at, place_of_any}
use Rattle.hpc2_audit.specs.Readers.{readers_at, joined, noted, noted_all, noted_lines, noted_registers, Read, AreReaders}
use Rattle.hpc2_audit.specs.declared.readers.Readers.{Readers}
use Rattle.hpc2_audit.specs.declared.readers.Readers.TheVariants.{Nobody, One as JustOne, Several}

pub or_left : (a b : Bool) → IsTrue a → IsTrue (a || b)
or_left true b h = refl
or_left false b h = absurd (let wrong : false ≡ true = h in cc)

pub or_right : (a b : Bool) → IsTrue b → IsTrue (a || b)
or_right true b h = refl
or_right false b h = h

pub or_parts : (a b : Bool) → IsTrue (a || b) → IsTrue a ⊎ IsTrue b
or_parts true b h = inl refl
or_parts false b h = inr h

read_same : (r : Readers) (P Q : ℕ → Type 0) → ((t : ℕ) → P t → Q t) → ((t : ℕ) → Q t → P t) → Read r P → Read r Q
read_same Nobody P Q to from h = λ t q. h t (from t q)
read_same (JustOne v) P Q to from h = (to v h.0, λ t q. h.1 t (from t q))
read_same Several P Q to from h = (h.0, h.1, h.2, to h.0 h.3, to h.1 h.4)

read_more : (r : Readers) (P Q : ℕ → Type 0) (u : ℕ) → ((t : ℕ) → P t → Q t) → Q u → ((t : ℕ) → Q t → P t ⊎ (t ≡ u)) → Read r P → Read (joined r u) Q
read_more Nobody P Q u to own from h = (own, λ t q. elim (from t q) [ inl p ↦ absurd (h t p) | inr e ↦ e ])
read_more (JustOne v) P Q u to own from h =
    elim (cases_Bool (v == u)) [
      | inl same ↦ subst (λ b. Read (cond b (JustOne v) Several) Q) (sym same) (to v h.0, λ t q. elim (from t q) [ inl p ↦ h.1 t p | inr e ↦ e ∙ sym (eqb-true v u same) ])
      | inr other ↦ subst (λ b. Read (cond b (JustOne v) Several) Q) (sym other) (v, u, eqb-false v u other, to v h.0, own)
    ]
read_more Several P Q u to own from h = (h.0, h.1, h.2, to h.0 h.3, to h.1 h.4)

-- what a table says of each wire's readers
abbrev pub AreRead : List Readers → (ℕ → ℕ → Type 0) → Type 0
AreRead rs P = (w : ℕ) → w < length rs → Read (readers_at rs w) (P w)

same_all : (rs : List Readers) (P Q : ℕ → ℕ → Type 0) → ((w t : ℕ) → P w t → Q w t) → ((w t : ℕ) → Q w t → P w t) → AreRead rs P → AreRead rs Q
same_all rs P Q to from h = λ w lt. read_same (readers_at rs w) (P w) (Q w) (to w) (from w) (h w lt)

noted_is : (rs : List Readers) (u w : ℕ) (P Q : ℕ → ℕ → Type 0) → ((v t : ℕ) → P v t → Q v t) → Q w u → ((v t : ℕ) → Q v t → P v t ⊎ ((t ≡ u) × (v ≡ w))) → AreRead rs P → AreRead (noted rs u w) Q
noted_is rs u w P Q to own from h = λ v lt.
    let x = joined (readers_at rs w) u in
    let long = length-set rs w x in
    elim (cases_Bool (v == w)) [
      | inl same ↦ (
          let eq : v ≡ w = eqb-true v w same in
          let lt' : w < length rs = omega arith in
          let here : x ≡ readers_at (noted rs u w) v = sym (ap (readers_at (noted rs u w)) eq ∙ get_or-set_same rs w x Nobody lt') in
          let more = read_more (readers_at rs w) (P w) (Q w) u (to w) own (λ t q. elim (from w t q) [ inl p ↦ inl p | inr b ↦ inr b.0 ]) (h w lt') in
          subst (λ r. Read r (Q v)) here (subst (λ m. Read x (Q m)) (sym eq) more))
      | inr other ↦ (
          let ne : v ≢ w = eqb-false v w other in
          let lt' : v < length rs = omega arith in
          let here : readers_at rs v ≡ readers_at (noted rs u w) v = sym (get_or-set_other rs w v x Nobody ne) in
          subst (λ r. Read r (Q v)) here (read_same (readers_at rs v) (P v) (Q v) (to v) (λ t q. elim (from v t q) [ inl p ↦ p | inr b ↦ absurd (ne b.1) ]) (h v lt')))
    ]

abbrev With : (ℕ → ℕ → Type 0) → ℕ → (ℕ → Bool) → ℕ → ℕ → Type 0
With P u reads v t = P v t ⊎ ((t ≡ u) × IsTrue (reads v))

no_more : (rs : List Readers) (P : ℕ → ℕ → Type 0) (u : ℕ) → AreRead rs P → AreRead rs (With P u (λ v. false))
no_more rs P u h = same_all rs P (With P u (λ v. false)) (λ w t p. inl p) (λ w t q. elim q [ inl p ↦ p | inr b ↦ absurd (let wrong : false ≡ true = b.1 in cc) ]) h

join_with : (rs : List Readers) (P : ℕ → ℕ → Type 0) (u : ℕ) (a b : ℕ → Bool) → AreRead rs (With (With P u a) u b) → AreRead rs (With P u (λ v. a v || b v))
join_with rs P u a b h =
    same_all rs (With (With P u a) u b) (With P u (λ v. a v || b v))
    (λ w t p. elim p [
      | inl first ↦ elim first [ inl q ↦ inl q | inr x ↦ inr (x.0, or_left (a w) (b w) x.1) ]
      | inr x ↦ inr (x.0, or_right (a w) (b w) x.1)
    ])
    (λ w t q. elim q [
      | inl p ↦ inl (inl p)
      | inr x ↦ elim (or_parts (a w) (b w) x.1) [ inl y ↦ inl (inr (x.0, y)) | inr y ↦ inr (x.0, y) ]
    ])
    h

all_is : (u : ℕ) (f : Formula) (rs : List Readers) (P : ℕ → ℕ → Type 0) → AreRead rs P → AreRead (noted_all u f rs) (With P u (λ v. stands v f))
all_is u f_zero rs P h = no_more rs P u h
all_is u f_one rs P h = no_more rs P u h
all_is u (f_wire w) rs P h =
    noted_is rs u w P (With P u (λ v. w == v)) (λ v t p. inl p) (inr (refl, eq-eqb w w refl)) (λ v t q. elim q [ inl p ↦ inl p | inr b ↦ inr (b.0, sym (eqb-true w v b.1)) ]) h
all_is u (f_not x) rs P h = all_is u x rs P h
all_is u (f_and x y) rs P h =
    join_with (noted_all u y (noted_all u x rs)) P u (λ v. stands v x) (λ v. stands v y) (all_is u y (noted_all u x rs) (With P u (λ v. stands v x)) (all_is u x rs P h))
all_is u (f_or x y) rs P h =
    join_with (noted_all u y (noted_all u x rs)) P u (λ v. stands v x) (λ v. stands v y) (all_is u y (noted_all u x rs) (With P u (λ v. stands v x)) (all_is u x rs P h))
all_is u (f_xor x y) rs P h =
    join_with (noted_all u y (noted_all u x rs)) P u (λ v. stands v x) (λ v. stands v y) (all_is u y (noted_all u x rs) (With P u (λ v. stands v x)) (all_is u x rs P h))
all_is u (f_mux s x y) rs P h =
    let one = noted_all u s rs in
    let two = noted_all u x one in
    let three = noted_all u y two in
    let first = all_is u s rs P h in
    let second = all_is u x one (With P u (λ v. stands v s)) first in
    let third = all_is u y two (With (With P u (λ v. stands v s)) u (λ v. stands v x)) second in
    let inner = join_with three (With P u (λ v. stands v s)) u (λ v. stands v x) (λ v. stands v y) third in
    join_with three P u (λ v. stands v s) (λ v. stands v x || stands v y) inner

-- wire t reads wire w by these equations, or by these registers
abbrev pub InLines : List Line → ℕ → ℕ → Type 0
InLines [] w t = Prim.⊥
InLines (l ∷ ls) w t = ((t ≡ l.0) × IsTrue (stands w l.1)) ⊎ InLines ls w t

abbrev pub InRegisters : List Stored → ℕ → ℕ → Type 0
InRegisters [] w t = Prim.⊥
InRegisters (r ∷ rs) w t = ((t ≡ r.q) × (IsTrue (stands w r.next) ⊎ (w ≡ r.clock))) ⊎ InRegisters rs w t

lines_are : (ls : List Line) (rs : List Readers) (P : ℕ → ℕ → Type 0) → AreRead rs P → AreRead (noted_lines ls rs) (λ w t. P w t ⊎ InLines ls w t)
lines_are [] rs P h = same_all rs P (λ w t. P w t ⊎ Prim.⊥) (λ w t p. inl p) (λ w t q. elim q [ inl p ↦ p | inr b ↦ absurd b ]) h
lines_are (l ∷ ls) rs P h =
    let one = noted_all l.0 l.1 rs in
    let Q : ℕ → ℕ → Type 0 = With P l.0 (λ v. stands v l.1) in
    same_all (noted_lines ls one) (λ w t. Q w t ⊎ InLines ls w t) (λ w t. P w t ⊎ InLines (l ∷ ls) w t)
    (λ w t p. elim p [ inl q ↦ elim q [ inl x ↦ inl x | inr x ↦ inr (inl x) ] | inr x ↦ inr (inr x) ])
    (λ w t p. elim p [ inl x ↦ inl (inl x) | inr q ↦ elim q [ inl x ↦ inl (inr x) | inr x ↦ inr x ] ])
    (lines_are ls one Q (all_is l.0 l.1 rs P h))

registers_are : (gs : List Stored) (rs : List Readers) (P : ℕ → ℕ → Type 0) → AreRead rs P → AreRead (noted_registers gs rs) (λ w t. P w t ⊎ InRegisters gs w t)
registers_are [] rs P h = same_all rs P (λ w t. P w t ⊎ Prim.⊥) (λ w t p. inl p) (λ w t q. elim q [ inl p ↦ p | inr b ↦ absurd b ]) h
registers_are (g ∷ gs) rs P h =
    let one = noted_all g.q g.next rs in
    let Q : ℕ → ℕ → Type 0 = With P g.q (λ v. stands v g.next) in
    let S : ℕ → ℕ → Type 0 = λ w t. P w t ⊎ ((t ≡ g.q) × (IsTrue (stands w g.next) ⊎ (w ≡ g.clock))) in
    let two = noted_is one g.q g.clock Q S
    (λ w t p. elim p [ inl x ↦ inl x | inr x ↦ inr (x.0, inl x.1) ])
    (inr (refl, inr refl))
    (λ w t p. elim p [ inl x ↦ inl (inl x) | inr x ↦ elim x.1 [ inl y ↦ inl (inr (x.0, y)) | inr y ↦ inr (x.0, y) ] ])
    (all_is g.q g.next rs P h) in
    same_all (noted_registers gs (noted one g.q g.clock)) (λ w t. S w t ⊎ InRegisters gs w t) (λ w t. P w t ⊎ InRegisters (g ∷ gs) w t)
    (λ w t p. elim p [ inl q ↦ elim q [ inl x ↦ inl x | inr x ↦ inr (inl x) ] | inr x ↦ inr (inr x) ])
    (λ w t p. elim p [ inl x ↦ inl (inl x) | inr q ↦ elim q [ inl x ↦ inl (inr x) | inr x ↦ inr x ] ])
    (registers_are gs (noted one g.q g.clock) S two)

place_of_line : (ls : List Line) (w t : ℕ) → InLines ls w t → (n : ℕ) × (f : Formula) × (slice_get ls n ≡ Some (t, f)) × IsTrue (stands w f)
place_of_line [] w t h = absurd h
place_of_line (l ∷ ls) w t (inl x) = (0, l.1, ap (λ v. Some (v, l.1)) (sym x.0), x.1)
place_of_line (l ∷ ls) w t (inr x) = let rest = place_of_line ls w t x in (suc rest.0, rest.1, rest.2, rest.3)

line_at : (ls : List Line) (n w t : ℕ) (f : Formula) → slice_get ls n ≡ Some (t, f) → IsTrue (stands w f) → InLines ls w t
line_at [] n w t f at h = absurd (cc)
line_at (l ∷ ls) zero w t f at h = let same : l ≡ (t, f) = cc in inl (sym (ap (λ (x : Line). x.0) same), subst (λ (x : Line). IsTrue (stands w x.1)) (sym same) h)
line_at (l ∷ ls) (suc n) w t f at h = inr (line_at ls n w t f at h)

place_of_register : (gs : List Stored) (w t : ℕ) → InRegisters gs w t → (n : ℕ) × (g : Stored) × (slice_get gs n ≡ Some g) × (t ≡ g.q) × (IsTrue (stands w g.next) ⊎ (w ≡ g.clock))
place_of_register [] w t h = absurd h
place_of_register (g ∷ gs) w t (inl x) = (0, g, refl, x.0, x.1)
place_of_register (g ∷ gs) w t (inr x) = let rest = place_of_register gs w t x in (suc rest.0, rest.1, rest.2, rest.3, rest.4)

register_at : (gs : List Stored) (n w t : ℕ) (g : Stored) → slice_get gs n ≡ Some g → t ≡ g.q → (IsTrue (stands w g.next) ⊎ (w ≡ g.clock)) → InRegisters gs w t
register_at [] n w t g at e h = absurd (cc)
register_at (k ∷ gs) zero w t g at e h =
    let same : k ≡ g = cc in
    inl (subst (λ (x : Stored). (t ≡ x.q) × (IsTrue (stands w x.next) ⊎ (w ≡ x.clock))) (sym same) (e, h))
register_at (k ∷ gs) (suc n) w t g at e h = inr (register_at gs n w t g at e h)

module _ (net : PlainNet) (well : WellFormed net) where
  reader_is : (w t : ℕ) → (Prim.⊥ ⊎ InLines net.lines w t) ⊎ InRegisters net.registers w t → IsTrue (is_reader net t w)
  reader_is w t (inl (inl none)) = absurd none
  reader_is w t (inl (inr line)) =
      let found = place_of_line net.lines w t line in
      let is = is_driver net well (d_equation found.1) t (found.0, found.2) in
      or_left (reads_ever (driver net t) w) (list_any (λ r. (r.q == t) && (r.clock == w)) net.registers) (subst (λ d. IsTrue (reads_ever d w)) (sym is) found.3)
  reader_is w t (inr register) =
      let found = place_of_register net.registers w t register in
      let g = found.1 in
      let is = is_driver net well (d_register found.0 g.next) t (g, found.2, sym found.3, refl) in
      elim found.4 [
        | inl next ↦ or_left (reads_ever (driver net t) w) (list_any (λ r. (r.q == t) && (r.clock == w)) net.registers) (subst (λ d. IsTrue (reads_ever d w)) (sym is) next)
        | inr clock ↦ or_right (reads_ever (driver net t) w) (list_any (λ r. (r.q == t) && (r.clock == w)) net.registers)
            (any_at (λ r. (r.q == t) && (r.clock == w)) net.registers found.0 g found.2 (and_from (g.q == t) (g.clock == w) (eq-eqb g.q t (sym found.3)) (eq-eqb g.clock w (sym clock))))
      ]

  of_driver : (w t : ℕ) (d : Driver) → HasDriver net d t → IsTrue (reads_ever d w) → (Prim.⊥ ⊎ InLines net.lines w t) ⊎ InRegisters net.registers w t
  of_driver w t (d_equation f) has h = inl (inr (line_at net.lines has.0 w t f has.1 h))
  of_driver w t (d_register n next) has h = inr (register_at net.registers n w t has.0 has.1 (sym has.2) (inl (subst (λ f. IsTrue (stands w f)) (sym has.3) h)))
  of_driver w t (d_input n) has h = absurd (let wrong : false ≡ true = h in cc)
  of_driver w t d_clock has h = absurd (let wrong : false ≡ true = h in cc)
  of_driver w t d_nothing has h = absurd has

  is_of_reader : (w t : ℕ) → IsTrue (is_reader net t w) → (Prim.⊥ ⊎ InLines net.lines w t) ⊎ InRegisters net.registers w t
  is_of_reader w t h =
      elim (or_parts (reads_ever (driver net t) w) (list_any (λ r. (r.q == t) && (r.clock == w)) net.registers) h) [
        | inl read ↦ elim (cases_lt t (length net.wires)) [
          | inl lt ↦ of_driver w t (driver net t) (is_driven net well t lt) read
          | inr ge ↦ absurd (let wrong : false ≡ true = subst (λ d. IsTrue (reads_ever d w)) (undriven net well t ge) read in cc)
        ]
        | inr clock ↦ (
            let found = place_of_any (λ (r : Stored). (r.q == t) && (r.clock == w)) net.registers clock in
            let parts = and_parts (found.1.q == t) (found.1.clock == w) found.3 in
            inr (register_at net.registers found.0 w t found.1 found.2 (sym (eqb-true found.1.q t parts.0)) (inr (sym (eqb-true found.1.clock w parts.1)))))
      ]

  pub readers_are : (start : List Readers) → length start ≡ length net.wires → ((w : ℕ) → w < length start → readers_at start w ≡ Nobody) → length (noted_registers net.registers (noted_lines net.lines start)) ≡ length start
      → AreReaders net (noted_registers net.registers (noted_lines net.lines start))
  readers_are start long none kept =
      let begun : AreRead start (λ w t. Prim.⊥) = λ w lt. subst (λ r. Read r (λ t. Prim.⊥)) (sym (none w lt)) (λ t h. h) in
      let all = registers_are net.registers (noted_lines net.lines start) (λ w t. Prim.⊥ ⊎ InLines net.lines w t) (lines_are net.lines start (λ w t. Prim.⊥) begun) in
      let whole = same_all (noted_registers net.registers (noted_lines net.lines start)) (λ w t. (Prim.⊥ ⊎ InLines net.lines w t) ⊎ InRegisters net.registers w t) (λ w t. IsTrue (is_reader net t w)) reader_is is_of_reader all in
      record { as_many = kept ∙ long; told = λ w lt. whole w (omega arith) }

all_long : (u : ℕ) (f : Formula) (rs : List Readers) → length (noted_all u f rs) ≡ length rs
all_long u f_zero rs = refl
all_long u f_one rs = refl
all_long u (f_wire w) rs = length-set rs w (joined (readers_at rs w) u)
all_long u (f_not x) rs = all_long u x rs
all_long u (f_and x y) rs = all_long u y (noted_all u x rs) ∙ all_long u x rs
all_long u (f_or x y) rs = all_long u y (noted_all u x rs) ∙ all_long u x rs
all_long u (f_xor x y) rs = all_long u y (noted_all u x rs) ∙ all_long u x rs
all_long u (f_mux s x y) rs = all_long u y (noted_all u x (noted_all u s rs)) ∙ (all_long u x (noted_all u s rs) ∙ all_long u s rs)

pub lines_long : (ls : List Line) (rs : List Readers) → length (noted_lines ls rs) ≡ length rs
lines_long [] rs = refl
lines_long (l ∷ ls) rs = lines_long ls (noted_all l.0 l.1 rs) ∙ all_long l.0 l.1 rs

pub registers_long : (gs : List Stored) (rs : List Readers) → length (noted_registers gs rs) ≡ length rs
registers_long [] rs = refl
registers_long (g ∷ gs) rs =
    registers_long gs (noted (noted_all g.q g.next rs) g.q g.clock) ∙ (length-set (noted_all g.q g.next rs) g.clock (joined (readers_at (noted_all g.q g.next rs) g.clock) g.q) ∙ all_long g.q g.next rs)
