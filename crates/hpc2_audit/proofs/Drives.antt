-- What drives a wire, by where it stands.
use Rattle.std.proofs.Common.{◌≡◌, ◌<◌, ℕ, zero, suc, Bool, true, false, List, [], ◌∷◌, Option, Some, None, length, map, get_or, slice_get, refl, sym, ap, subst, inl, inr, ◌∙◌, ◌⊎◌, eq-eqb}
use Rattle.std.specs.Prelude.{◌==◌}
use Rattle.std.proofs.lemmas.Bool.{eqb-true}
use Rattle.std.proofs.lemmas.Option.{get_or_from_slice_get, slice_get_within}
use Rattle.agm_net.specs.Formula.{Formula, formula_of, f_zero, f_one, f_wire, f_not, f_and, f_or, f_xor, f_mux}
use Rattle.agm_net.specs.Plain.{Line, Stored, PlainNet, line_of, stored_of, clock_bits}
use Rattle.agm_net.specs.Run.{Driver, d_input, d_clock, d_equation, d_register, d_nothing, HasDriver, driver}
use Rattle.agm_net.specs.View.{plain_of}
use Rattle.agm_net.specs.WellFormed.{WellFormed}
use Rattle.agm_net.specs.declared.expr.Equation.{Equation}
use Rattle.agm_net.specs.declared.expr.Register.{Register}
use Rattle.agm_net.specs.declared.net.Net.{Net}
use Rattle.agm_net.proofs.Driving.{is_driven, is_driver}
use Rattle.agm_net.proofs.Lists.{any_at, get_image, place_of_any}
use Rattle.hpc2_audit.specs.Places.{IsPlace}
use Rattle.hpc2_audit.specs.Recipes.{form, form_of, over_one, over_two, wire_in}
use Rattle.hpc2_audit.specs.Standing.{IsDriven}
use Rattle.hpc2_audit.specs.declared.drivers.Driven.{Driven}
use Rattle.hpc2_audit.specs.declared.drivers.Driven.TheVariants.{Bit, Clocked, Line as ALine, Flop}
use Rattle.hpc2_audit.specs.declared.forms.Form.{Form}
use Rattle.hpc2_audit.specs.declared.forms.Form.TheVariants.{Other, Copied, Inverted, Both, Differ, Kept}
use Rattle.hpc2_audit.specs.declared.places.Place.TheVariants.{Nowhere}

of_image : {X Y : Type 0} (f : X → Y) (xs : List X) (k : ℕ) (y : Y) → slice_get (map f xs) k ≡ Some y → (x : X) × (slice_get xs k ≡ Some x) × (f x ≡ y)
of_image f [] k y at = absurd (cc)
of_image f (x ∷ xs) zero y at = (x, refl, (let same : f x ≡ y = cc in same))
of_image f (x ∷ xs) (suc k) y at = of_image f xs k y at

module _ (net : Net) (well : WellFormed (plain_of net)) where
  abbrev plain_net : PlainNet
  plain_net = plain_of net

  -- the equation of a wire
  line_place : (k w : ℕ) → slice_get (map (λ l. l.0) plain_net.lines) k ≡ Some w → (e : Equation) × (slice_get net.equations k ≡ Some e) × (driver plain_net w ≡ d_equation (formula_of e.expr))
  line_place k w at =
      let line = of_image (λ (l : Line). l.0) plain_net.lines k w at in
      let own = of_image line_of net.equations k line.0 line.1 in
      let wire : own.0.wire ≡ w = ap (λ (l : Line). l.0) own.2 ∙ line.2 in
      let here : slice_get plain_net.lines k ≡ Some (w, formula_of own.0.expr) = get_image line_of net.equations k own.0 own.1 ∙ ap (λ v. Some (v, formula_of own.0.expr)) wire in
      (own.0, own.1, is_driver plain_net well (d_equation (formula_of own.0.expr)) w (k, here))

  pub line_within : (k w : ℕ) → slice_get (map (λ l. l.0) plain_net.lines) k ≡ Some w → k < length net.equations
  line_within k w at = let own = line_place k w at in slice_get_within net.equations k own.0 own.1

  pub line_drives : (k w : ℕ) (e : Equation) → slice_get (map (λ l. l.0) plain_net.lines) k ≡ Some w → e ≡ get_or net.equations k e → driver plain_net w ≡ d_equation (formula_of e.expr)
  line_drives k w e at is =
      let own = line_place k w at in
      let same : own.0 ≡ e = sym (is ∙ get_or_from_slice_get net.equations k own.0 e own.1) in
      subst (λ (x : Equation). driver plain_net w ≡ d_equation (formula_of x.expr)) same own.2

  -- the register of a wire
  abbrev IsFlop : ℕ → ℕ → Register → Type 0
  IsFlop w k r = (driver plain_net w ≡ d_register k (formula_of r.next)) × (slice_get plain_net.registers k ≡ Some (stored_of r)) × (r.q ≡ w)

  register_place : (k w : ℕ) → slice_get (map (λ r. r.q) plain_net.registers) k ≡ Some w → (r : Register) × (slice_get net.registers k ≡ Some r) × IsFlop w k r
  register_place k w at =
      let stored = of_image (λ (r : Stored). r.q) plain_net.registers k w at in
      let own = of_image stored_of net.registers k stored.0 stored.1 in
      let q : own.0.q ≡ w = ap (λ (s : Stored). s.q) own.2 ∙ stored.2 in
      let here : slice_get plain_net.registers k ≡ Some (stored_of own.0) = get_image stored_of net.registers k own.0 own.1 in
      (own.0, own.1, (is_driver plain_net well (d_register k (formula_of own.0.next)) w (stored_of own.0, here, q, refl), here, q))

  pub register_within : (k w : ℕ) → slice_get (map (λ r. r.q) plain_net.registers) k ≡ Some w → k < length net.registers
  register_within k w at = let own = register_place k w at in slice_get_within net.registers k own.0 own.1

  pub register_drives : (k w : ℕ) (r : Register) → slice_get (map (λ r. r.q) plain_net.registers) k ≡ Some w → r ≡ get_or net.registers k r → (n : ℕ) × (driver plain_net w ≡ d_register n (formula_of r.next)) × (slice_get plain_net.registers n ≡ Some (stored_of r)) × (r.q ≡ w)
  register_drives k w r at is =
      let own = register_place k w at in
      let same : own.0 ≡ r = sym (is ∙ get_or_from_slice_get net.registers k own.0 r own.1) in
      let here = subst (IsFlop w k) same own.2 in
      (k, here.0, here.1, here.2)

  pub clock_drives : (k w : ℕ) → slice_get (clock_bits plain_net) k ≡ Some w → driver plain_net w ≡ d_clock
  clock_drives k w at = is_driver plain_net well d_clock w (any_at (λ b. b == w) (clock_bits plain_net) k w at (eq-eqb w w refl))

  -- what stands nowhere is an input bit
  pub bit_drives : (w : ℕ) → w < length plain_net.wires → IsPlace (map (λ l. l.0) plain_net.lines) w Nowhere → IsPlace (map (λ r. r.q) plain_net.registers) w Nowhere → IsPlace (clock_bits plain_net) w Nowhere
      → (n : ℕ) × (driver plain_net w ≡ d_input n)
  bit_drives w lt lines registers clock = go (driver plain_net w) refl (is_driven plain_net well w lt)
    where
      go : (d : Driver) → driver plain_net w ≡ d → HasDriver plain_net d w → (n : ℕ) × (driver plain_net w ≡ d_input n)
      go (d_input n) is has = (n, is)
      go d_clock is has = (let found = place_of_any (λ b. b == w) (clock_bits plain_net) has in absurd (clock found.0 (found.2 ∙ ap (λ v. Some v) (eqb-true found.1 w found.3))))
      go (d_equation f) is has = absurd (lines has.0 (get_image (λ (l : Line). l.0) plain_net.lines has.0 (w, f) has.1))
      go (d_register n next) is has = absurd (registers n (get_image (λ (r : Stored). r.q) plain_net.registers n has.0 has.1 ∙ ap (λ v. Some v) has.2))
      go d_nothing is has = absurd has

-- a formula by its form
wire_cases : (x : Formula) → (wire_in x ≡ None) ⊎ ((v : ℕ) × (x ≡ f_wire v))
wire_cases f_zero = inl refl
wire_cases f_one = inl refl
wire_cases (f_wire v) = inr (v, refl)
wire_cases (f_not x) = inl refl
wire_cases (f_and x y) = inl refl
wire_cases (f_or x y) = inl refl
wire_cases (f_xor x y) = inl refl
wire_cases (f_mux s x y) = inl refl

abbrev pub back : Form → Option Formula
back Other = None
back (Copied v) = Some (f_wire v)
back (Inverted v) = Some (f_not (f_wire v))
back (Both u v) = Some (f_and (f_wire u) (f_wire v))
back (Differ u v) = Some (f_xor (f_wire u) (f_wire v))
back (Kept v) = None

no_second : (makes : ℕ → ℕ → Form) (o : Option ℕ) → over_two makes o None ≡ Other
no_second makes None = refl
no_second makes (Some u) = refl

two_back : (makes : ℕ → ℕ → Form) (op : Formula → Formula → Formula) → ((u v : ℕ) → back (makes u v) ≡ Some (op (f_wire u) (f_wire v))) → (x y : Formula)
    → (back (over_two makes (wire_in x) (wire_in y)) ≡ None) ⊎ (back (over_two makes (wire_in x) (wire_in y)) ≡ Some (op x y))
two_back makes op is x y =
    elim (wire_cases x) [
      | inl none ↦ inl (ap (λ o. back (over_two makes o (wire_in y))) none)
      | inr u ↦ elim (wire_cases y) [
        | inl none ↦ inl (ap (λ o. back (over_two makes (wire_in x) o)) none ∙ ap back (no_second makes (wire_in x)))
        | inr v ↦ inr (
            ap (λ z. back (over_two makes (wire_in z) (wire_in y))) u.1
            ∙ (ap (λ z. back (over_two makes (Some u.0) (wire_in z))) v.1 ∙ (is u.0 v.0 ∙ (ap (λ z. Some (op z (f_wire v.0))) (sym u.1) ∙ ap (λ z. Some (op x z)) (sym v.1)))))
      ]
    ]

form_back : (f : Formula) → (back (form f) ≡ None) ⊎ (back (form f) ≡ Some f)
form_back f_zero = inl refl
form_back f_one = inl refl
form_back (f_wire v) = inr refl
form_back (f_not x) =
    elim (wire_cases x) [
      | inl none ↦ inl (ap (λ o. back (over_one Inverted o)) none)
      | inr v ↦ inr (ap (λ y. back (over_one Inverted (wire_in y))) v.1 ∙ ap (λ y. Some (f_not y)) (sym v.1))
    ]
form_back (f_and x y) = two_back Both f_and (λ u v. refl) x y
form_back (f_or x y) = inl refl
form_back (f_xor x y) = two_back Differ f_xor (λ u v. refl) x y
form_back (f_mux s x y) = inl refl

abbrev is_kept : Form → Bool
is_kept (Kept v) = true
is_kept _ = false

one_not_kept : (o : Option ℕ) → is_kept (over_one Inverted o) ≡ false
one_not_kept None = refl
one_not_kept (Some v) = refl

two_not_kept : (makes : ℕ → ℕ → Form) → ((u v : ℕ) → is_kept (makes u v) ≡ false) → (o p : Option ℕ) → is_kept (over_two makes o p) ≡ false
two_not_kept makes is None p = refl
two_not_kept makes is (Some u) None = refl
two_not_kept makes is (Some u) (Some v) = is u v

form_not_kept : (f : Formula) → is_kept (form f) ≡ false
form_not_kept f_zero = refl
form_not_kept f_one = refl
form_not_kept (f_wire v) = refl
form_not_kept (f_not x) = one_not_kept (wire_in x)
form_not_kept (f_and x y) = two_not_kept Both (λ u v. refl) (wire_in x) (wire_in y)
form_not_kept (f_or x y) = refl
form_not_kept (f_xor x y) = two_not_kept Differ (λ u v. refl) (wire_in x) (wire_in y)
form_not_kept (f_mux s x y) = refl

kept_back : (o : Option ℕ) → back (over_one Kept o) ≡ None
kept_back None = refl
kept_back (Some v) = refl

not_some : {X : Type 0} (o : Option X) (x : X) → o ≡ None → o ≡ Some x → Prim.⊥
not_some o x e f = absurd (let wrong : None ≡ Some x = sym e ∙ f in cc)

module _ (net : PlainNet) (w : ℕ) where
  -- a form that is an equation's
  pub line_is : (drv : Driven) (shape : Form) (f : Formula) → form_of drv ≡ shape → back shape ≡ Some f → IsDriven net w drv → driver net w ≡ d_equation f
  line_is Bit shape f e is h = absurd (not_some (back shape) f (sym (ap back e)) is)
  line_is Clocked shape f e is h = absurd (not_some (back shape) f (sym (ap back e)) is)
  line_is (ALine x) shape f e is h =
      let own = formula_of x.now in
      elim (form_back own) [
        | inl none ↦ absurd (not_some (back (form own)) f none (ap back e ∙ is))
        | inr some ↦ (let both : Some own ≡ Some f = sym some ∙ (ap back e ∙ is) in h ∙ ap (λ g. d_equation g) (let same : own ≡ f = cc in same))
      ]
  line_is (Flop r) shape f e is h = absurd (not_some (back shape) f (sym (ap back e) ∙ kept_back (wire_in (formula_of r.now.next))) is)

  -- the form of an equation
  pub form_line : (drv : Driven) (f : Formula) → driver net w ≡ d_equation f → IsDriven net w drv → form_of drv ≡ form f
  form_line Bit f e h = absurd (let wrong : d_input h.0 ≡ d_equation f = sym h.1 ∙ e in cc)
  form_line Clocked f e h = absurd (let wrong : d_clock ≡ d_equation f = sym h ∙ e in cc)
  form_line (ALine x) f e h = (let both : d_equation (formula_of x.now) ≡ d_equation f = sym h ∙ e in ap form (let same : formula_of x.now ≡ f = cc in same))
  form_line (Flop r) f e h = absurd (let wrong : d_register h.0 (formula_of r.now.next) ≡ d_equation f = sym h.1 ∙ e in cc)

  -- a form that is a register's
  pub kept_is : (drv : Driven) (v : ℕ) → form_of drv ≡ Kept v → IsDriven net w drv → (n : ℕ) × (driver net w ≡ d_register n (f_wire v))
  kept_is Bit v e h = absurd (let wrong : Other ≡ Kept v = e in cc)
  kept_is Clocked v e h = absurd (let wrong : Other ≡ Kept v = e in cc)
  kept_is (ALine x) v e h = absurd (let wrong : false ≡ true = sym (form_not_kept (formula_of x.now)) ∙ ap is_kept e in cc)
  kept_is (Flop r) v e h =
      let own = formula_of r.now.next in
      elim (wire_cases own) [
        | inl none ↦ absurd (let wrong : Other ≡ Kept v = sym (ap (over_one Kept) none) ∙ e in cc)
        | inr u ↦ (
            let both : Kept u.0 ≡ Kept v = sym (ap (λ y. over_one Kept (wire_in y)) u.1) ∙ e in
            let same : u.0 ≡ v = cc in
            (h.0, h.1 ∙ ap (λ y. d_register h.0 y) (u.1 ∙ ap f_wire same)))
      ]

  pub form_kept : (drv : Driven) (n v : ℕ) → driver net w ≡ d_register n (f_wire v) → IsDriven net w drv → form_of drv ≡ Kept v
  form_kept Bit n v e h = absurd (let wrong : d_input h.0 ≡ d_register n (f_wire v) = sym h.1 ∙ e in cc)
  form_kept Clocked n v e h = absurd (let wrong : d_clock ≡ d_register n (f_wire v) = sym h ∙ e in cc)
  form_kept (ALine x) n v e h = absurd (let wrong : d_equation (formula_of x.now) ≡ d_register n (f_wire v) = sym h ∙ e in cc)
  form_kept (Flop r) n v e h =
      let both : d_register h.0 (formula_of r.now.next) ≡ d_register n (f_wire v) = sym h.1 ∙ e in
      ap (λ y. over_one Kept (wire_in y)) (let same : formula_of r.now.next ≡ f_wire v = cc in same)
