-- A net stays one where its wires are renumbered, and a net with the ports of a masked net has them.
use Rattle.std.proofs.Common.{◌≡◌, ◌<◌, ◌≤◌, ◌+◌, ◌==◌, ◌&&◌, ℕ, zero, suc, Bool, false, List, [], ◌∷◌, Some, map, filter, length, slice_get, count_by, nat_lt, refl, sym, ap, ap₂, subst, inl, inr, ◌∙◌, arith}
use Rattle.std.specs.List.{flat_map, list_all}
use Rattle.std.specs.Option.{option_map_or}
use Rattle.std.proofs.lemmas.Bool.{cases_Bool, cases_lt, both_ways, false_from_ne_true, ltb-true, lt-ltb}
use Rattle.agm_net.specs.Formula.{Formula, f_zero, f_one, f_wire, f_not, f_and, f_or, f_xor, f_mux, reads_below}
use Rattle.agm_net.specs.Plain.{Line, Stored, PlainNet, bit_names, is_input}
use Rattle.agm_net.specs.Renumbered.{renumbered, renumbered_line, renumbered_register, renumbered_port, Renumbered}
use Rattle.agm_net.specs.WellFormed.{WellFormed, PortsAreRight, Differ, drivers, numbers_fit, is_clock_port}
use Rattle.agm_net.specs.declared.port.Port.{Port}
use Rattle.agm_net.proofs.Lists.{count_yes, count_no}
use Rattle.share_wiring.specs.Shape.{header_of}
use Rattle.share_wiring.specs.declared.report.Report.{Report}
use Rattle.whole_networks.specs.Whole.{IsMaskedNet}
use Rattle.whole_networks.proofs.Renumbering.{bits_there, chosen_there, wire_there, wire_back, same_wire}
use Rattle.whole_networks.proofs.RenumberedNetwork.{from_image}

-- ---- lists and their images

all_there : {X Y : Type 0} (p : Y → Bool) (q : X → Bool) (f : X → Y) → ((x : X) → p (f x) ≡ q x) → (xs : List X) → list_all p (map f xs) ≡ list_all q xs
all_there p q f same [] = refl
all_there p q f same (x ∷ xs) = ap₂ (λ a b. a && b) (same x) (all_there p q f same xs)

count_there : {X Y : Type 0} (p : Y → Bool) (q : X → Bool) (f : X → Y) → ((x : X) → p (f x) ≡ q x) → (xs : List X) → count_by p (map f xs) ≡ count_by q xs
count_there p q f same [] = refl
count_there p q f same (x ∷ xs) =
    let rest = count_there p q f same xs in
    elim (cases_Bool (q x)) [
      | inl is ↦ count_yes p (f x) (map f xs) (same x ∙ is) ∙ (ap (λ k. 1 + k) rest ∙ sym (count_yes q x xs is))
      | inr apart ↦ count_no p (f x) (map f xs) (same x ∙ apart) ∙ (rest ∙ sym (count_no q x xs apart))
    ]

names_there : (there : ℕ → ℕ) (ps : List Port) → map (λ p. p.name) (map (renumbered_port there) ps) ≡ map (λ p. p.name) ps
names_there there [] = refl
names_there there (p ∷ ps) = ap (λ names. p.name ∷ names) (names_there there ps)

headers_there : (there : ℕ → ℕ) (ps : List Port) → map header_of (map (renumbered_port there) ps) ≡ map header_of ps
headers_there there [] = refl
headers_there there (p ∷ ps) = ap (λ hs. header_of p ∷ hs) (headers_there there ps)

clock_port_there : (there : ℕ → ℕ) (ps : List Port) (c : ℕ) → option_map_or is_clock_port (slice_get (map (renumbered_port there) ps) c) false ≡ option_map_or is_clock_port (slice_get ps c) false
clock_port_there there [] c = refl
clock_port_there there (p ∷ ps) zero = refl
clock_port_there there (p ∷ ps) (suc c) = clock_port_there there ps c

module _ (net other : PlainNet) (r : Renumbered net other) where
  -- ---- numbers

  below_there : (w : ℕ) → nat_lt (r.there w) (length other.wires) ≡ nat_lt w (length net.wires)
  below_there w =
      let n = length net.wires in
      let m = length other.wires in
      elim (cases_Bool (nat_lt w n)) [
        | inl is ↦ lt-ltb (r.there w) m (wire_there net other r w (ltb-true w n is)) ∙ sym is
        | inr apart ↦ false_from_ne_true (nat_lt (r.there w) m) (λ h. both_ways (nat_lt w n) apart (lt-ltb w n (wire_back net other r w (ltb-true (r.there w) m h)))) ∙ sym apart
      ]

  reads_there : (f : Formula) → reads_below (length other.wires) (renumbered r.there f) ≡ reads_below (length net.wires) f
  reads_there f_zero = refl
  reads_there f_one = refl
  reads_there (f_wire w) = below_there w
  reads_there (f_not x) = reads_there x
  reads_there (f_and x y) = ap₂ (λ p q. p && q) (reads_there x) (reads_there y)
  reads_there (f_or x y) = ap₂ (λ p q. p && q) (reads_there x) (reads_there y)
  reads_there (f_xor x y) = ap₂ (λ p q. p && q) (reads_there x) (reads_there y)
  reads_there (f_mux s x y) = ap₂ (λ p q. p && q) (reads_there s) (ap₂ (λ p q. p && q) (reads_there x) (reads_there y))

  abbrev line_fits : ℕ → Line → Bool
  line_fits n l = nat_lt l.0 n && reads_below n l.1

  abbrev register_fits : ℕ → Stored → Bool
  register_fits n s = nat_lt s.q n && (reads_below n s.next && nat_lt s.clock n)

  numbers_there : numbers_fit other ≡ numbers_fit net
  numbers_there =
      let n = length net.wires in
      let m = length other.wires in
      ap₂ (λ p q. p && q)
      (ap (λ ls. list_all (line_fits m) ls) r.same_lines
      ∙ all_there (line_fits m) (line_fits n) (renumbered_line r.there) (λ l. ap₂ (λ p q. p && q) (below_there l.0) (reads_there l.1)) net.lines)
      (ap (λ rs. list_all (register_fits m) rs) r.same_registers
      ∙ all_there (register_fits m) (register_fits n) (renumbered_register r.there)
      (λ s. ap₂ (λ p q. p && q) (below_there s.q) (ap₂ (λ p q. p && q) (reads_there s.next) (below_there s.clock))) net.registers)

  -- ---- names

  name_back : (v : ℕ) → slice_get net.wires (r.back v) ≡ slice_get other.wires v
  name_back v = sym (r.same_names (r.back v)) ∙ ap (λ u. slice_get other.wires u) (r.back_and_there v)

  same_back : (v w : ℕ) → r.back v ≡ r.back w → v ≡ w
  same_back v w e = sym (r.back_and_there v) ∙ (ap r.there e ∙ r.back_and_there w)

  is_wire : (v : ℕ) → v < length other.wires → r.back v < length net.wires
  is_wire v lt = wire_back net other r (r.back v) (subst (λ u. u < length other.wires) (sym (r.back_and_there v)) lt)

  names_differ : Differ net.wires → Differ other.wires
  names_differ differ v w lt inside same =
      let both = name_back v ∙ (same ∙ sym (name_back w)) in
      elim (cases_lt (r.back v) (r.back w)) [
        | inl less ↦ differ (r.back v) (r.back w) less (is_wire w inside) both
        | inr more ↦ elim (cases_lt (r.back w) (r.back v)) [
          | inl less ↦ differ (r.back w) (r.back v) less (is_wire v (omega arith)) (sym both)
          | inr apart ↦ (let equal : r.back v ≡ r.back w = omega arith in let one = same_back v w equal in absurd (omega (arith, one)))
        ]
      ]

  -- ---- ports

  wires_of : (ws : List ℕ) → map (slice_get other.wires) (map r.there ws) ≡ map (slice_get net.wires) ws
  wires_of [] = refl
  wires_of (w ∷ ws) = ap₂ (λ o os. o ∷ os) (r.same_names w) (wires_of ws)

  port_named : PortsAreRight net → (n : ℕ) (p : Port) → slice_get other.ports n ≡ Some p → map (slice_get other.wires) p.bits ≡ map (λ name. Some name) (bit_names p.name p.range)
  port_named right n p at =
      let found = from_image (renumbered_port r.there) net.ports n p (sym (ap (λ ps. slice_get ps n) r.same_ports) ∙ at) in
      subst (λ (q : Port). map (slice_get other.wires) q.bits ≡ map (λ name. Some name) (bit_names q.name q.range)) (sym found.2) (wires_of found.0.bits ∙ right.bits_named n found.0 found.1)

  bits_are : flat_map (λ p. p.bits) other.ports ≡ map r.there (flat_map (λ p. p.bits) net.ports)
  bits_are = ap (λ ps. flat_map (λ p. p.bits) ps) r.same_ports ∙ bits_there r.there net.ports

  uses_there : (w : ℕ) → count_by (λ b. b == r.there w) (flat_map (λ p. p.bits) other.ports) ≡ count_by (λ b. b == w) (flat_map (λ p. p.bits) net.ports)
  uses_there w =
      ap (λ bs. count_by (λ b. b == r.there w) bs) bits_are
      ∙ count_there (λ b. b == r.there w) (λ b. b == w) r.there (λ b. same_wire net other r b w) (flat_map (λ p. p.bits) net.ports)

  ports_right : PortsAreRight net → PortsAreRight other
  ports_right right = record {
    ports_differ = subst (λ names. Differ names) (sym (ap (λ ps. map (λ (p : Port). p.name) ps) r.same_ports ∙ names_there r.there net.ports)) right.ports_differ;
    bits_named = port_named right;
    one_port = (λ v. subst (λ u. count_by (λ b. b == u) (flat_map (λ p. p.bits) other.ports) ≤ 1) (r.back_and_there v)
        (subst (λ k. k ≤ 1) (sym (uses_there (r.back v))) (right.one_port (r.back v))));
    clock_fits = (λ c e. ap (λ ps. option_map_or is_clock_port (slice_get ps c) false) r.same_ports
        ∙ (clock_port_there r.there net.ports c ∙ right.clock_fits c (sym r.same_clock ∙ e)));
  }

  -- ---- drivers

  inputs_are : flat_map (λ p. p.bits) (filter is_input other.ports) ≡ map r.there (flat_map (λ p. p.bits) (filter is_input net.ports))
  inputs_are =
      ap (λ ps. flat_map (λ p. p.bits) (filter is_input ps)) r.same_ports
      ∙ (ap (λ ps. flat_map (λ p. p.bits) ps) (chosen_there r.there is_input (λ p. refl) net.ports) ∙ bits_there r.there (filter is_input net.ports))

  drivers_there : (w : ℕ) → drivers other (r.there w) ≡ drivers net w
  drivers_there w =
      ap₂ (λ a b. a + b)
      (ap (λ bs. count_by (λ b. b == r.there w) bs) inputs_are
      ∙ count_there (λ b. b == r.there w) (λ b. b == w) r.there (λ b. same_wire net other r b w) (flat_map (λ p. p.bits) (filter is_input net.ports)))
      (ap₂ (λ a b. a + b)
      (ap (λ ls. count_by (λ (l : Line). l.0 == r.there w) ls) r.same_lines
      ∙ count_there (λ (l : Line). l.0 == r.there w) (λ (l : Line). l.0 == w) (renumbered_line r.there) (λ l. same_wire net other r l.0 w) net.lines)
      (ap (λ rs. count_by (λ (s : Stored). s.q == r.there w) rs) r.same_registers
      ∙ count_there (λ (s : Stored). s.q == r.there w) (λ (s : Stored). s.q == w) (renumbered_register r.there) (λ s. same_wire net other r s.q w) net.registers))

  pub is_well : WellFormed net → WellFormed other
  is_well well = record {
    in_range = numbers_there ∙ well.in_range;
    ports_right = ports_right well.ports_right;
    wires_differ = names_differ well.wires_differ;
    one_driver = (λ v lt. ap (λ u. drivers other u) (sym (r.back_and_there v)) ∙ (drivers_there (r.back v) ∙ well.one_driver (r.back v) (is_wire v lt)));
  }

  pub is_masked : (original : PlainNet) (report : Report) → IsMaskedNet original report net → IsMaskedNet original report other
  is_masked original report masked = record {
    well = is_well masked.well;
    shape = record {
      headers = ap (λ ps. map header_of ps) r.same_ports ∙ (headers_there r.there net.ports ∙ masked.shape.headers);
      clock = r.same_clock ∙ masked.shape.clock;
    };
    users = masked.users;
    differ = masked.differ;
    few = masked.few;
  }
