-- What drives the wires of a builder's net.
use Rattle.std.proofs.Common.{◌≡◌, ◌<◌, ◌≤◌, ◌==◌, ◌||◌, ◌⊎◌, ℕ, Bool, true, false, List, Some, length, slice_get, count_by, IsTrue, refl, sym, ap, ap₂, subst, inl, inr, ◌∙◌, arith}
use Rattle.std.specs.List.{AllByRecursion, list_any}
use Rattle.std.proofs.lemmas.Bool.{cases_lt, or_cases, or_left, or_right, eqb-true}
use Rattle.std.proofs.lemmas.List.{length-map}
use Rattle.agm_net.specs.Formula.{Formula, f_wire, stands}
use Rattle.agm_net.specs.Plain.{Line, Stored}
use Rattle.agm_net.specs.Run.{Driver, d_input, d_clock, d_equation, d_register, d_nothing, HasDriver, driver, reads_ever}
use Rattle.agm_net.specs.WellFormed.{WellFormed}
use Rattle.agm_net.proofs.Driving.{is_driver, is_driven, undriven}
use Rattle.agm_net.proofs.Lists.{all_of_one, some_counted, place_of_any}
use Rattle.share_wiring.specs.Gates.{gate_formula}
use Rattle.share_wiring.specs.Wiring.{Wiring, source_at, line_at, stored_at, lines_below, stored_below, net_of}
use Rattle.share_wiring.specs.Built.{IsBuilt, is_stored}
use Rattle.share_wiring.specs.Networks.{gate_reads, source_reads}
use Rattle.share_wiring.specs.declared.gate.Gate.{Gate}
use Rattle.share_wiring.specs.declared.gate.Gate.TheVariants.{Zero, One, Same, Not, And, Or, Xor, Mux}
use Rattle.share_wiring.specs.declared.gate.Source.{Source}
use Rattle.share_wiring.specs.declared.gate.Source.TheVariants.{Input, Equation, Register, Held}
use Rattle.share_wiring.specs.declared.gate.Wire.{Wire}
use Rattle.share_wiring.proofs.FinishedNet.{all_lines, all_stored, is_line, lines_one, stored_one, well_formed}

-- what a line of the net is, and a register of it
abbrev LineTold : List Wire → Line → Type 0
LineTold wires l = (l.0 < length wires) × (gate : Gate) × (source_at wires l.0 ≡ Equation gate) × (l.1 ≡ gate_formula gate)

abbrev pub StoredTold : List Wire → Stored → Type 0
StoredTold wires r =
    (r.q < length wires) × ((next : ℕ) × (source_at wires r.q ≡ Register next r.clock) × (r.next ≡ f_wire next)) ⊎ ((r.q < length wires) × (source_at wires r.q ≡ Held) × (r.next ≡ f_wire r.q) × (r.clock ≡ 0))

line_told : (wires : List Wire) (w : ℕ) (s : Source) → w < length wires → source_at wires w ≡ s → AllByRecursion (LineTold wires) (line_at w s)
line_told wires w Input lt is = tt
line_told wires w (Equation gate) lt is = ((lt, gate, is, refl), tt)
line_told wires w (Register next clock) lt is = tt
line_told wires w Held lt is = tt

stored_told : (wires : List Wire) (w : ℕ) (s : Source) → w < length wires → source_at wires w ≡ s → AllByRecursion (StoredTold wires) (stored_at w s)
stored_told wires w Input lt is = tt
stored_told wires w (Equation gate) lt is = tt
stored_told wires w (Register next clock) lt is = (inl (lt, (next, is, refl)), tt)
stored_told wires w Held lt is = (inr (lt, is, refl, refl), tt)

lines_told : (wires : List Wire) → AllByRecursion (LineTold wires) (lines_below wires (length wires))
lines_told wires = all_lines (LineTold wires) wires (length wires) (λ w lt. line_told wires w (source_at wires w) lt refl)

pub all_told : (wires : List Wire) → AllByRecursion (StoredTold wires) (stored_below wires (length wires))
all_told wires = all_stored (StoredTold wires) wires (length wires) (λ w lt. stored_told wires w (source_at wires w) lt refl)

-- what wire w of this source reads or stores
abbrev pub ReadsIt : Source → (w v : ℕ) → Type 0
ReadsIt s w v = IsTrue (list_any (λ b. b == v) (source_reads s)) ⊎ ((s ≡ Held) × (v ≡ w))

last : (a : Bool) → IsTrue a → IsTrue (a || false)
last a h = or_left a false h

two : (a b v : ℕ) → IsTrue ((a == v) || (b == v)) → IsTrue ((a == v) || ((b == v) || false))
two a b v h =
    elim (or_cases (a == v) (b == v) h) [ inl left ↦ or_left (a == v) ((b == v) || false) left | inr right ↦ or_right (a == v) ((b == v) || false) (last (b == v) right) ]

gate_stood : (gate : Gate) (v : ℕ) → IsTrue (stands v (gate_formula gate)) → IsTrue (list_any (λ b. b == v) (gate_reads gate))
gate_stood Zero v h = h
gate_stood One v h = h
gate_stood (Same a) v h = last (a == v) h
gate_stood (Not a) v h = last (a == v) h
gate_stood (And a b) v h = two a b v h
gate_stood (Or a b) v h = two a b v h
gate_stood (Xor a b) v h = two a b v h
gate_stood (Mux s a b) v h =
    elim (or_cases (s == v) ((a == v) || (b == v)) h) [
      | inl first ↦ or_left (s == v) ((a == v) || ((b == v) || false)) first
      | inr rest ↦ or_right (s == v) ((a == v) || ((b == v) || false)) (two a b v rest)
    ]

same_gate : (g h : Gate) → ◌≡◌ {A = Source} (Equation g) (Equation h) → g ≡ h
same_gate g h e = cc

module _ (net : Wiring) (built : IsBuilt net) where
  well : WellFormed (net_of net)
  well = well_formed net built

  pub equation_driver : (w : ℕ) (gate : Gate) → w < length net.wires → source_at net.wires w ≡ Equation gate → driver (net_of net) w ≡ d_equation (gate_formula gate)
  equation_driver w gate lt is =
      let lines = lines_below net.wires (length net.wires) in
      let one : count_by (λ l. l.0 == w) lines ≡ 1 = lines_one net.wires (length net.wires) w lt ∙ ap is_line is in
      let found = place_of_any (λ (l : Line). l.0 == w) lines (some_counted (λ (l : Line). l.0 == w) lines (omega (arith, one))) in
      let at : found.1.0 ≡ w = eqb-true found.1.0 w found.3 in
      let told = all_of_one (LineTold net.wires) lines found.0 found.1 (lines_told net.wires) found.2 in
      let same : told.1 ≡ gate = same_gate told.1 gate (sym told.2 ∙ (ap (source_at net.wires) at ∙ is)) in
      let shown : slice_get lines found.0 ≡ Some (w, gate_formula gate) = found.2 ∙ ap₂ (λ v (f : Formula). Some (v, f)) at (told.3 ∙ ap gate_formula same) in
      is_driver (net_of net) well (d_equation (gate_formula gate)) w (found.0, shown)

  -- of a register, or a wire that is held, the place of its register
  register_at : (w : ℕ) → w < length net.wires → is_stored (source_at net.wires w) ≡ 1 → (n : ℕ) × (r : Stored) × (slice_get (net_of net).registers n ≡ Some r) × (r.q ≡ w)
  register_at w lt is =
      let registers = stored_below net.wires (length net.wires) in
      let one : count_by (λ r. r.q == w) registers ≡ 1 = stored_one net.wires (length net.wires) w lt ∙ is in
      let found = place_of_any (λ (r : Stored). r.q == w) registers (some_counted (λ (r : Stored). r.q == w) registers (omega (arith, one))) in
      (found.0, found.1, found.2, eqb-true found.1.q w found.3)

  pub register_driver : (w next clock : ℕ) → w < length net.wires → source_at net.wires w ≡ Register next clock → (n : ℕ) × (driver (net_of net) w ≡ d_register n (f_wire next))
  register_driver w next clock lt is =
      let registers = stored_below net.wires (length net.wires) in
      let found = register_at w lt (ap is_stored is) in
      elim (all_of_one (StoredTold net.wires) registers found.0 found.1 (all_told net.wires) found.2) [
        | inl told ↦ (
            let both : Register told.1.0 found.1.clock ≡ Register next clock = sym told.1.1 ∙ (ap (source_at net.wires) found.3 ∙ is) in
            let same : told.1.0 ≡ next = cc in
            (found.0, is_driver (net_of net) well (d_register found.0 (f_wire next)) w (found.1, found.2, found.3, told.1.2 ∙ ap f_wire same)))
        | inr told ↦ absurd (let both : Held ≡ Register next clock = sym told.1 ∙ (ap (source_at net.wires) found.3 ∙ is) in cc)
      ]

  held_driver : (w : ℕ) → w < length net.wires → source_at net.wires w ≡ Held → (n : ℕ) × (driver (net_of net) w ≡ d_register n (f_wire w))
  held_driver w lt is =
      let registers = stored_below net.wires (length net.wires) in
      let found = register_at w lt (ap is_stored is) in
      elim (all_of_one (StoredTold net.wires) registers found.0 found.1 (all_told net.wires) found.2) [
        | inl told ↦ absurd (let both : Register told.1.0 found.1.clock ≡ Held = sym told.1.1 ∙ (ap (source_at net.wires) found.3 ∙ is) in cc)
        | inr told ↦ (found.0, is_driver (net_of net) well (d_register found.0 (f_wire w)) w (found.1, found.2, found.3, told.2 ∙ ap f_wire found.3))
      ]

  -- an input reads nothing
  input_reads : (w v : ℕ) (d : Driver) → w < length net.wires → source_at net.wires w ≡ Input → HasDriver (net_of net) d w → reads_ever d v ≡ false
  input_reads w v (d_input n) lt is h = refl
  input_reads w v d_clock lt is h = refl
  input_reads w v d_nothing lt is h = refl
  input_reads w v (d_equation f) lt is h =
      let told = all_of_one (LineTold net.wires) (lines_below net.wires (length net.wires)) h.0 (w, f) (lines_told net.wires) h.1 in
      absurd (let both : Equation told.1 ≡ Input = sym told.2 ∙ is in cc)
  input_reads w v (d_register n next) lt is h =
      elim (all_of_one (StoredTold net.wires) (stored_below net.wires (length net.wires)) n h.0 (all_told net.wires) h.1) [
        | inl told ↦ absurd (let both : Register told.1.0 h.0.clock ≡ Input = sym told.1.1 ∙ (ap (source_at net.wires) h.2 ∙ is) in cc)
        | inr told ↦ absurd (let both : Held ≡ Input = sym told.1 ∙ (ap (source_at net.wires) h.2 ∙ is) in cc)
      ]

  -- what a wire reads in the net it reads by its source
  reads_by : (w v : ℕ) (s : Source) → w < length net.wires → source_at net.wires w ≡ s → IsTrue (reads_ever (driver (net_of net) w) v) → ReadsIt s w v
  reads_by w v Input lt is h =
      absurd (let no : false ≡ true = sym (input_reads w v (driver (net_of net) w) lt is (is_driven (net_of net) well w (subst (λ k. w < k) (sym (length-map net.wires (λ (x : Wire). x.name))) lt))) ∙ h in cc)
  reads_by w v (Equation gate) lt is h = inl (gate_stood gate v (subst (λ d. IsTrue (reads_ever d v)) (equation_driver w gate lt is) h))
  reads_by w v (Register next clock) lt is h =
      let at = register_driver w next clock lt is in
      inl (last (next == v) (subst (λ d. IsTrue (reads_ever d v)) at.1 h))
  reads_by w v Held lt is h =
      let at = held_driver w lt is in
      inr (refl, sym (eqb-true w v (subst (λ d. IsTrue (reads_ever d v)) at.1 h)))

  pub reads_told : (w v : ℕ) → IsTrue (reads_ever (driver (net_of net) w) v) → (w < length net.wires) × ReadsIt (source_at net.wires w) w v
  reads_told w v h =
      elim (cases_lt w (length net.wires)) [
        | inl lt ↦ (lt, reads_by w v (source_at net.wires w) lt refl h)
        | inr past ↦ absurd (
            let none = undriven (net_of net) well w (subst (λ k. k ≤ w) (sym (length-map net.wires (λ (x : Wire). x.name))) past) in
            let no : false ≡ true = sym (ap (λ d. reads_ever d v) none) ∙ h in cc)
      ]
