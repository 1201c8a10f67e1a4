-- A net whose wires are renumbered has the drivers of the net, and their reads.
use Rattle.std.proofs.Common.{◌≡◌, ◌<◌, ◌+◌, ◌==◌, ◌&&◌, ◌||◌, ◌++◌, ℕ, suc, Bool, true, false, cond, List, [], ◌∷◌, Option, Some, None, codes, length, map, filter, take, drop, get_or, unwrap_or, bytes_eq, refl, sym, ap, ap₂, inl, inr, ◌∙◌, eq-eqb}
use Rattle.std.specs.List.{flat_map, list_any}
use Rattle.std.proofs.lemmas.Bool.{cases_Bool, both_ways, eqb-true, false_from_ne_true}
use Rattle.std.proofs.lemmas.List.{map-append, take-map, drop-map}
use Rattle.std.proofs.lemmas.Option.{slice_get_within, slice_get-get_or, unwrap_or-slice_get}
use Rattle.agm_net.specs.Formula.{Formula, f_zero, f_one, f_wire, f_not, f_and, f_or, f_xor, f_mux, stands}
use Rattle.agm_net.specs.Label.{name_of, is_port_bit, is_reader}
use Rattle.agm_net.specs.Loop.{reads}
use Rattle.agm_net.specs.Network.{random_bits_of}
use Rattle.agm_net.specs.Plain.{Line, Stored, PlainNet, is_input, ports_but, data_ports, input_bits, bits_of_port, clock_bits}
use Rattle.agm_net.specs.Renumbered.{renumbered, renumbered_line, renumbered_register, renumbered_port, Renumbered}
use Rattle.agm_net.specs.Run.{Driver, d_input, d_clock, d_equation, d_register, d_nothing, first_driver, driver, reads_ever}
use Rattle.agm_net.specs.declared.port.Port.{Port}

-- ---- lists and their images

-- a test finds in the image what another finds in the list
any_there : {X Y : Type 0} (p : Y → Bool) (q : X → Bool) (f : X → Y) → ((x : X) → p (f x) ≡ q x) → (xs : List X) → list_any p (map f xs) ≡ list_any q xs
any_there p q f same [] = refl
any_there p q f same (x ∷ xs) = ap₂ (λ a b. a || b) (same x) (any_there p q f same xs)

-- what the first item that passes gives, in the image and in the list
first_there : {X Y : Type 0} (p : Y → Bool) (q : X → Bool) (f : X → Y) (m : ℕ → Y → Driver) (k : ℕ → X → Driver) (g : Driver → Driver) (e o : Driver)
    → ((x : X) → p (f x) ≡ q x) → ((n : ℕ) (x : X) → m n (f x) ≡ g (k n x)) → e ≡ g o → (n : ℕ) (xs : List X) → first_driver p m n (map f xs) e ≡ g (first_driver q k n xs o)
first_there p q f m k g e o same makes last n [] = last
first_there p q f m k g e o same makes last n (x ∷ xs) =
    let rest = first_there p q f m k g e o same makes last (suc n) xs in
    ap (λ b. cond b (m n (f x)) (first_driver p m (suc n) (map f xs) e)) (same x)
    ∙ elim (q x) as (λ b. cond b (m n (f x)) (first_driver p m (suc n) (map f xs) e) ≡ g (cond b (k n x) (first_driver q k (suc n) xs o))) [ true ↦ makes n x | false ↦ rest ]

-- ---- ports

pub bits_there : (there : ℕ → ℕ) (ps : List Port) → flat_map (λ p. p.bits) (map (renumbered_port there) ps) ≡ map there (flat_map (λ p. p.bits) ps)
bits_there there [] = refl
bits_there there (p ∷ ps) = ap (λ ws. map there p.bits ++ ws) (bits_there there ps) ∙ sym (map-append there p.bits (flat_map (λ q. q.bits) ps))

pub chosen_there : (there : ℕ → ℕ) (test : Port → Bool) → ((p : Port) → test (renumbered_port there p) ≡ test p) → (ps : List Port)
    → filter test (map (renumbered_port there) ps) ≡ map (renumbered_port there) (filter test ps)
chosen_there there test same [] = refl
chosen_there there test same (p ∷ ps) =
    let rest = chosen_there there test same ps in
    let others = filter test (map (renumbered_port there) ps) in
    ap (λ t. cond t (renumbered_port there p ∷ others) others) (same p)
    ∙ elim (test p) as (λ t. cond t (renumbered_port there p ∷ others) others ≡ map (renumbered_port there) (cond t (p ∷ filter test ps) (filter test ps)))
    [ true ↦ ap (λ qs. renumbered_port there p ∷ qs) rest | false ↦ rest ]

but_there : (there : ℕ → ℕ) (clock : Option ℕ) (ps : List Port) → ports_but clock (map (renumbered_port there) ps) ≡ map (renumbered_port there) (ports_but clock ps)
but_there there None ps = refl
but_there there (Some k) ps =
    ap₂ (λ xs ys. xs ++ ys) (take-map (renumbered_port there) k ps) (drop-map (renumbered_port there) (k + 1) ps) ∙ sym (map-append (renumbered_port there) (take k ps) (drop (k + 1) ps))

clock_there : (there : ℕ → ℕ) (clock : Option ℕ) (ps : List Port) → bits_of_port (map (renumbered_port there) ps) clock ≡ map there (bits_of_port ps clock)
clock_there there None ps = refl
clock_there there (Some k) ps =
    ap (λ qs. flat_map (λ p. p.bits) (take 1 qs)) (drop-map (renumbered_port there) k ps)
    ∙ (ap (λ qs. flat_map (λ p. p.bits) qs) (take-map (renumbered_port there) 1 (drop k ps)) ∙ bits_there there (take 1 (drop k ps)))

-- ---- drivers

abbrev pub renumbered_driver : (ℕ → ℕ) → Driver → Driver
renumbered_driver there (d_input n) = d_input n
renumbered_driver there d_clock = d_clock
renumbered_driver there (d_equation f) = d_equation (renumbered there f)
renumbered_driver there (d_register n next) = d_register n (renumbered there next)
renumbered_driver there d_nothing = d_nothing

-- the driver of a wire by the lists that tell of it
abbrev driver_in : List Line → List Stored → List ℕ → List ℕ → ℕ → Driver
driver_in lines registers inputs clocks w =
    first_driver (λ l. l.0 == w) (λ n l. d_equation l.1) 0 lines
    (first_driver (λ r. r.q == w) (λ n r. d_register n r.next) 0 registers
    (first_driver (λ b. b == w) (λ n b. d_input n) 0 inputs
    (first_driver (λ b. b == w) (λ n b. d_clock) 0 clocks d_nothing)))

module _ (net other : PlainNet) (r : Renumbered net other) where
  pub name_there : (w : ℕ) → name_of other (r.there w) ≡ name_of net w
  name_there w = sym (unwrap_or-slice_get other.wires (r.there w) []) ∙ (ap (λ o. unwrap_or o []) (r.same_names w) ∙ unwrap_or-slice_get net.wires w [])

  pub wire_there : (w : ℕ) → w < length net.wires → r.there w < length other.wires
  wire_there w lt = slice_get_within other.wires (r.there w) (get_or net.wires w []) (r.same_names w ∙ slice_get-get_or net.wires w [] lt)

  pub wire_back : (w : ℕ) → r.there w < length other.wires → w < length net.wires
  wire_back w lt = slice_get_within net.wires w (get_or other.wires (r.there w) []) (sym (r.same_names w) ∙ slice_get-get_or other.wires (r.there w) [] lt)

  pub one_wire : (a w : ℕ) → r.there a ≡ r.there w → a ≡ w
  one_wire a w e = sym (r.there_and_back a) ∙ (ap r.back e ∙ r.there_and_back w)

  pub same_wire : (a w : ℕ) → (r.there a == r.there w) ≡ (a == w)
  same_wire a w =
      elim (cases_Bool (a == w)) [
        | inl is ↦ eq-eqb (r.there a) (r.there w) (ap r.there (eqb-true a w is)) ∙ sym is
        | inr apart ↦ false_from_ne_true (r.there a == r.there w) (λ h. both_ways (a == w) apart (eq-eqb a w (one_wire a w (eqb-true (r.there a) (r.there w) h)))) ∙ sym apart
      ]

  stands_there : (v : ℕ) (f : Formula) → stands (r.there v) (renumbered r.there f) ≡ stands v f
  stands_there v f_zero = refl
  stands_there v f_one = refl
  stands_there v (f_wire w) = same_wire w v
  stands_there v (f_not x) = stands_there v x
  stands_there v (f_and x y) = ap₂ (λ p q. p || q) (stands_there v x) (stands_there v y)
  stands_there v (f_or x y) = ap₂ (λ p q. p || q) (stands_there v x) (stands_there v y)
  stands_there v (f_xor x y) = ap₂ (λ p q. p || q) (stands_there v x) (stands_there v y)
  stands_there v (f_mux s x y) = ap₂ (λ p q. p || q) (stands_there v s) (ap₂ (λ p q. p || q) (stands_there v x) (stands_there v y))

  data_are : data_ports other ≡ map (renumbered_port r.there) (data_ports net)
  data_are = ap₂ ports_but r.same_clock r.same_ports ∙ but_there r.there net.clock net.ports

  chosen_bits : (test : Port → Bool) → ((p : Port) → test (renumbered_port r.there p) ≡ test p)
      → flat_map (λ p. p.bits) (filter test (data_ports other)) ≡ map r.there (flat_map (λ p. p.bits) (filter test (data_ports net)))
  chosen_bits test same =
      ap (λ ps. flat_map (λ p. p.bits) (filter test ps)) data_are
      ∙ (ap (λ ps. flat_map (λ p. p.bits) ps) (chosen_there r.there test same (data_ports net)) ∙ bits_there r.there (filter test (data_ports net)))

  pub inputs_are : input_bits other ≡ map r.there (input_bits net)
  inputs_are = chosen_bits is_input (λ p. refl)

  random_are : random_bits_of other ≡ map r.there (random_bits_of net)
  random_are = chosen_bits (λ p. is_input p && bytes_eq p.name (codes "agm_r")) (λ p. refl)

  clocks_are : clock_bits other ≡ map r.there (clock_bits net)
  clocks_are = ap₂ bits_of_port r.same_ports r.same_clock ∙ clock_there r.there net.clock net.ports

  -- the driver of a wire is that of its number in the other net, renumbered
  pub driver_there : (w : ℕ) → driver other (r.there w) ≡ renumbered_driver r.there (driver net w)
  driver_there w =
      let v = r.there w in
      let lines = map (renumbered_line r.there) net.lines in
      let registers = map (renumbered_register r.there) net.registers in
      let g = renumbered_driver r.there in
      ap₂ (λ ls rs. driver_in ls rs (input_bits other) (clock_bits other) v) r.same_lines r.same_registers
      ∙ (ap₂ (λ is cs. driver_in lines registers is cs v) inputs_are clocks_are
      ∙ first_there (λ (l : Line). l.0 == v) (λ (l : Line). l.0 == w) (renumbered_line r.there) (λ n l. d_equation l.1) (λ n l. d_equation l.1) g _ _ (λ l. same_wire l.0 w) (λ n l. refl)
      (first_there (λ (s : Stored). s.q == v) (λ (s : Stored). s.q == w) (renumbered_register r.there) (λ n s. d_register n s.next) (λ n s. d_register n s.next) g _ _ (λ s. same_wire s.q w) (λ n s. refl)
      (first_there (λ b. b == v) (λ b. b == w) r.there (λ n b. d_input n) (λ n b. d_input n) g _ _ (λ b. same_wire b w) (λ n b. refl)
      (first_there (λ b. b == v) (λ b. b == w) r.there (λ n b. d_clock) (λ n b. d_clock) g d_nothing d_nothing (λ b. same_wire b w) (λ n b. refl) refl 0 (clock_bits net)) 0 (input_bits net)) 0 net.registers) 0 net.lines)

  reads_by : (v : ℕ) (d : Driver) → reads_ever (renumbered_driver r.there d) (r.there v) ≡ reads_ever d v
  reads_by v (d_input n) = refl
  reads_by v d_clock = refl
  reads_by v (d_equation f) = stands_there v f
  reads_by v (d_register n next) = stands_there v next
  reads_by v d_nothing = refl

  pub reads_there : (w v : ℕ) → reads_ever (driver other (r.there w)) (r.there v) ≡ reads_ever (driver net w) v
  reads_there w v = ap (λ d. reads_ever d (r.there v)) (driver_there w) ∙ reads_by v (driver net w)

  pub now_there : (w v : ℕ) → reads other (r.there w) (r.there v) ≡ reads net w v
  now_there w v =
      ap (λ ls. list_any (λ (l : Line). (l.0 == r.there w) && stands (r.there v) l.1) ls) r.same_lines
      ∙ any_there (λ (l : Line). (l.0 == r.there w) && stands (r.there v) l.1) (λ (l : Line). (l.0 == w) && stands v l.1) (renumbered_line r.there)
      (λ l. ap₂ (λ p q. p && q) (same_wire l.0 w) (stands_there v l.1)) net.lines

  pub reader_there : (w v : ℕ) → is_reader other (r.there w) (r.there v) ≡ is_reader net w v
  reader_there w v =
      ap₂ (λ p q. p || q) (reads_there w v)
      (ap (λ rs. list_any (λ (s : Stored). (s.q == r.there w) && (s.clock == r.there v)) rs) r.same_registers
      ∙ any_there (λ (s : Stored). (s.q == r.there w) && (s.clock == r.there v)) (λ (s : Stored). (s.q == w) && (s.clock == v)) (renumbered_register r.there)
      (λ s. ap₂ (λ p q. p && q) (same_wire s.q w) (same_wire s.clock v)) net.registers)

  pub port_there : (w : ℕ) → is_port_bit other (r.there w) ≡ is_port_bit net w
  port_there w =
      ap (λ bs. list_any (λ b. b == r.there w) bs) (ap (λ ps. flat_map (λ p. p.bits) ps) r.same_ports ∙ bits_there r.there net.ports)
      ∙ any_there (λ b. b == r.there w) (λ b. b == w) r.there (λ b. same_wire b w) (flat_map (λ p. p.bits) net.ports)

  pub random_there : (w : ℕ) → list_any (λ b. b == r.there w) (random_bits_of other) ≡ list_any (λ b. b == w) (random_bits_of net)
  random_there w =
      ap (λ bs. list_any (λ b. b == r.there w) bs) random_are ∙ any_there (λ b. b == r.there w) (λ b. b == w) r.there (λ b. same_wire b w) (random_bits_of net)
