-- A net whose wires are renumbered is a net.
use Rattle.std.proofs.Common.{◌≡◌, ◌≢◌, ◌≤◌, ◌<◌, ◌+◌, ◌==◌, ℕ, zero, suc, Bool, true, false, ◌&&◌, cond, List, [], ◌∷◌, ◌++◌, length, map, filter, count_by, get_or, nat_lt, Some, IsTrue, slice_get, refl, sym, ap, ap₂, subst, ◌∙◌, inl, inr, arith, eq-eqb}
use Rattle.std.specs.List.{AllByRecursion, flat_map, list_all}
use Rattle.std.specs.Option.{option_map_or}
use Rattle.std.proofs.lemmas.Bool.{both_ways, cases_lt, cases_Bool, and_parts, and_from, eqb-true, ltb-true, lt-ltb, false_from_ne_true}
use Rattle.std.proofs.lemmas.List.{map-append}
use Rattle.std.proofs.lemmas.Option.{slice_get_within, slice_get-get_or}
use Rattle.agm_net.specs.Formula.{Formula, f_zero, f_one, f_wire, f_not, f_and, f_or, f_xor, f_mux, reads_below}
use Rattle.agm_net.specs.Plain.{Line, Stored, PlainNet, bit_names, is_input}
use Rattle.agm_net.specs.WellFormed.{WellFormed, PortsAreRight, Differ, is_clock_port}
use Rattle.agm_net.specs.Renumbered.{renumbered, renumbered_line, renumbered_register, renumbered_port, Renumbered}
use Rattle.agm_net.specs.declared.port.Port.{Port}
use Rattle.design_binds.proofs.Apart.{all_by_place}
use Rattle.design_binds.proofs.Among.{count-yes, count-no}

-- a fact of each item is one of the item at a place
pub of_one : {X : Type 0} (P : X → Type 0) (xs : List X) (n : ℕ) (x : X) → AllByRecursion P xs → slice_get xs n ≡ Some x → P x
of_one P [] n x all at = absurd (cc)
of_one P (y ∷ ys) zero x all at = let same : y ≡ x = cc in subst P same all.0
of_one P (y ∷ ys) (suc n) x all at = of_one P ys n x all.1 at

-- counts where one test is another behind a function
count_mapped : {X Y : Type 0} (test : X → Bool) (other : Y → Bool) (f : X → Y) (xs : List X) → ((x : X) → other (f x) ≡ test x) → count_by other (map f xs) ≡ count_by test xs
count_mapped test other f [] e = refl
count_mapped test other f (x ∷ xs) e =
    let rest = count_mapped test other f xs e in
    elim (cases_Bool (test x)) [
      | inl t ↦ count-yes other (f x) (map f xs) (e x ∙ t) ∙ (ap (λ k. 1 + k) rest ∙ sym (count-yes test x xs t))
      | inr t ↦ count-no other (f x) (map f xs) (e x ∙ t) ∙ (rest ∙ sym (count-no test x xs t))
    ]

map_each : {X Y : Type 0} (f g : X → Y) (xs : List X) → ((x : X) → f x ≡ g x) → map f xs ≡ map g xs
map_each f g [] e = refl
map_each f g (x ∷ xs) e = ap₂ (λ y ys. y ∷ ys) (e x) (map_each f g xs e)

twice : {X Y Z : Type 0} (f : X → Y) (g : Y → Z) (xs : List X) → map g (map f xs) ≡ map (λ x. g (f x)) xs
twice f g [] = refl
twice f g (x ∷ xs) = ap (λ ys. g (f x) ∷ ys) (twice f g xs)

names_kept : (there : ℕ → ℕ) (ps : List Port) → map (λ p. p.name) (map (renumbered_port there) ps) ≡ map (λ p. p.name) ps
names_kept there [] = refl
names_kept there (p ∷ ps) = ap (λ ns. p.name ∷ ns) (names_kept there ps)

bits_moved : (there : ℕ → ℕ) (ps : List Port) → flat_map (λ p. p.bits) (map (renumbered_port there) ps) ≡ map there (flat_map (λ p. p.bits) ps)
bits_moved there [] = refl
bits_moved there (p ∷ ps) = ap (λ ws. map there p.bits ++ ws) (bits_moved there ps) ∙ sym (map-append there p.bits (flat_map (λ q. q.bits) ps))

inputs_moved : (there : ℕ → ℕ) (ps : List Port) → filter is_input (map (renumbered_port there) ps) ≡ map (renumbered_port there) (filter is_input ps)
inputs_moved there [] = refl
inputs_moved there (p ∷ ps) =
    let rest = inputs_moved there ps in
    elim (is_input p) as (λ t. cond t (renumbered_port there p ∷ filter is_input (map (renumbered_port there) ps)) (filter is_input (map (renumbered_port there) ps)) ≡ map (renumbered_port there) (cond t (p ∷ filter is_input ps) (filter is_input ps)))
    [ true ↦ ap (λ qs. renumbered_port there p ∷ qs) rest | false ↦ rest ]

clock_kept : (there : ℕ → ℕ) (ps : List Port) (c : ℕ) → option_map_or is_clock_port (slice_get (map (renumbered_port there) ps) c) false ≡ option_map_or is_clock_port (slice_get ps c) false
clock_kept there [] c = refl
clock_kept there (p ∷ ps) zero = refl
clock_kept there (p ∷ ps) (suc c) = clock_kept there ps c

-- names of different places differ
pub differ_either : (names : List (List ℕ)) (v w : ℕ) → Differ names → v < length names → w < length names → v ≢ w → slice_get names v ≢ slice_get names w
differ_either names v w differ in_v in_w ne e =
    elim (cases_lt v w) [ inl lt ↦ differ v w lt in_w e | inr le ↦ differ w v (omega arith) in_v (sym e) ]

module _ (net other : PlainNet) (formed : WellFormed net) (r : Renumbered net other) where
  wire_there : (w : ℕ) → w < length net.wires → r.there w < length other.wires
  wire_there w lt = slice_get_within other.wires (r.there w) (get_or net.wires w []) (r.same_names w ∙ slice_get-get_or net.wires w [] lt)

  test_there : (w : ℕ) → IsTrue (nat_lt w (length net.wires)) → IsTrue (nat_lt (r.there w) (length other.wires))
  test_there w h = lt-ltb (r.there w) (length other.wires) (wire_there w (ltb-true w (length net.wires) h))

  reads_there : (f : Formula) → reads_below (length net.wires) f ≡ true → reads_below (length other.wires) (renumbered r.there f) ≡ true
  reads_there f_zero h = h
  reads_there f_one h = h
  reads_there (f_wire w) h = test_there w h
  reads_there (f_not x) h = reads_there x h
  reads_there (f_and x y) h = let p = and_parts _ _ h in and_from _ _ (reads_there x p.0) (reads_there y p.1)
  reads_there (f_or x y) h = let p = and_parts _ _ h in and_from _ _ (reads_there x p.0) (reads_there y p.1)
  reads_there (f_xor x y) h = let p = and_parts _ _ h in and_from _ _ (reads_there x p.0) (reads_there y p.1)
  reads_there (f_mux s x y) h = let p = and_parts _ _ h in let q = and_parts _ _ p.1 in and_from _ _ (reads_there s p.0) (and_from _ _ (reads_there x q.0) (reads_there y q.1))

  lines_there : (ls : List Line) → list_all (λ l. nat_lt l.0 (length net.wires) && reads_below (length net.wires) l.1) ls ≡ true
      → list_all (λ l. nat_lt l.0 (length other.wires) && reads_below (length other.wires) l.1) (map (renumbered_line r.there) ls) ≡ true
  lines_there [] h = refl
  lines_there (l ∷ ls) h =
      let p = and_parts (nat_lt l.0 (length net.wires) && reads_below (length net.wires) l.1) _ h in
      let q = and_parts (nat_lt l.0 (length net.wires)) _ p.0 in
      and_from _ _ (and_from _ _ (test_there l.0 q.0) (reads_there l.1 q.1)) (lines_there ls p.1)

  registers_there : (rs : List Stored) → list_all (λ s. nat_lt s.q (length net.wires) && (reads_below (length net.wires) s.next && nat_lt s.clock (length net.wires))) rs ≡ true
      → list_all (λ s. nat_lt s.q (length other.wires) && (reads_below (length other.wires) s.next && nat_lt s.clock (length other.wires))) (map (renumbered_register r.there) rs) ≡ true
  registers_there [] h = refl
  registers_there (s ∷ ss) h =
      let p = and_parts (nat_lt s.q (length net.wires) && (reads_below (length net.wires) s.next && nat_lt s.clock (length net.wires))) _ h in
      let q = and_parts (nat_lt s.q (length net.wires)) _ p.0 in
      let t = and_parts (reads_below (length net.wires) s.next) _ q.1 in
      and_from _ _ (and_from _ _ (test_there s.q q.0) (and_from _ _ (reads_there s.next t.0) (test_there s.clock t.1))) (registers_there ss p.1)

  -- a wire is the number of another where it is the other's wire
  same_wire : (x v : ℕ) → (r.there x == v) ≡ (x == r.back v)
  same_wire x v =
      elim (cases_Bool (x == r.back v)) [
        | inl e ↦ eq-eqb (r.there x) v (ap r.there (eqb-true x (r.back v) e) ∙ r.back_and_there v) ∙ sym e
        | inr e ↦ false_from_ne_true (r.there x == v) (λ t. both_ways (x == r.back v) e (eq-eqb x (r.back v) (sym (r.there_and_back x) ∙ ap r.back (eqb-true (r.there x) v t)))) ∙ sym e
      ]

  name_back : (v : ℕ) → slice_get other.wires v ≡ slice_get net.wires (r.back v)
  name_back v = ap (slice_get other.wires) (sym (r.back_and_there v)) ∙ r.same_names (r.back v)

  back_below : (v : ℕ) → v < length other.wires → r.back v < length net.wires
  back_below v lt = slice_get_within net.wires (r.back v) (get_or other.wires v []) (sym (name_back v) ∙ slice_get-get_or other.wires v [] lt)

  mapped_ports : (ps : List Port) → AllByRecursion (λ q. map (slice_get net.wires) q.bits ≡ map (λ name. Some name) (bit_names q.name q.range)) ps
      → AllByRecursion (λ q. map (slice_get other.wires) q.bits ≡ map (λ name. Some name) (bit_names q.name q.range)) (map (renumbered_port r.there) ps)
  mapped_ports [] h = tt
  mapped_ports (p ∷ ps) h = (twice r.there (slice_get other.wires) p.bits ∙ (map_each (λ w. slice_get other.wires (r.there w)) (slice_get net.wires) p.bits r.same_names ∙ h.0), mapped_ports ps h.1)

  ports_right : PortsAreRight other
  ports_right = record {
    ports_differ = subst Differ (sym (ap (λ ps. map (λ (p : Port). p.name) ps) r.same_ports ∙ names_kept r.there net.ports)) formed.ports_right.ports_differ;
    bits_named = (λ n p at. of_one (λ q. map (slice_get other.wires) q.bits ≡ map (λ name. Some name) (bit_names q.name q.range)) (map (renumbered_port r.there) net.ports) n p
        (mapped_ports net.ports (all_by_place (λ q. map (slice_get net.wires) q.bits ≡ map (λ name. Some name) (bit_names q.name q.range)) net.ports formed.ports_right.bits_named))
        (ap (λ ps. slice_get ps n) (sym r.same_ports) ∙ at));
    one_port = (λ w. subst (λ k. k ≤ 1) (sym (ap (λ ws. count_by (λ b. b == w) ws) (ap (λ ps. flat_map (λ (p : Port). p.bits) ps) r.same_ports ∙ bits_moved r.there net.ports)
        ∙ count_mapped (λ b. b == r.back w) (λ b. b == w) r.there (flat_map (λ p. p.bits) net.ports) (λ x. same_wire x w))) (formed.ports_right.one_port (r.back w)));
    clock_fits = (λ c e. subst (λ ps. IsTrue (option_map_or is_clock_port (slice_get ps c) false)) (sym r.same_ports)
        (clock_kept r.there net.ports c ∙ formed.ports_right.clock_fits c (sym r.same_clock ∙ e)));
  }

  pub renumbered_well_formed : WellFormed other
  renumbered_well_formed =
      let fit = and_parts (list_all (λ l. nat_lt l.0 (length net.wires) && reads_below (length net.wires) l.1) net.lines) _ formed.in_range in
      record {
        in_range = and_from _ _
            (subst (λ ls. list_all (λ l. nat_lt l.0 (length other.wires) && reads_below (length other.wires) l.1) ls ≡ true) (sym r.same_lines) (lines_there net.lines fit.0))
            (subst (λ rs. list_all (λ s. nat_lt s.q (length other.wires) && (reads_below (length other.wires) s.next && nat_lt s.clock (length other.wires))) rs ≡ true) (sym r.same_registers) (registers_there net.registers fit.1));
        ports_right = ports_right;
        wires_differ = (λ v w lt in_w e. let in_v : v < length other.wires = omega arith in
            differ_either net.wires (r.back v) (r.back w) formed.wires_differ (back_below v in_v) (back_below w in_w)
            (λ same. let clash : v ≡ w = sym (r.back_and_there v) ∙ (ap r.there same ∙ r.back_and_there w) in omega arith)
            (sym (name_back v) ∙ (e ∙ name_back w)));
        one_driver = (λ w lt.
            let inputs = ap (λ ws. count_by (λ b. b == w) ws) (ap (λ ps. flat_map (λ (p : Port). p.bits) (filter is_input ps)) r.same_ports ∙ (ap (λ ps. flat_map (λ (p : Port). p.bits) ps) (inputs_moved r.there net.ports) ∙ bits_moved r.there (filter is_input net.ports)))
            ∙ count_mapped (λ b. b == r.back w) (λ b. b == w) r.there (flat_map (λ p. p.bits) (filter is_input net.ports)) (λ x. same_wire x w) in
            let lines = ap (λ ls. count_by (λ (l : Line). l.0 == w) ls) r.same_lines ∙ count_mapped (λ (l : Line). l.0 == r.back w) (λ (l : Line). l.0 == w) (renumbered_line r.there) net.lines (λ l. same_wire l.0 w) in
            let registers = ap (λ rs. count_by (λ (s : Stored). s.q == w) rs) r.same_registers ∙ count_mapped (λ (s : Stored). s.q == r.back w) (λ (s : Stored). s.q == w) (renumbered_register r.there) net.registers (λ s. same_wire s.q w) in
            ap₂ (λ a b. a + b) inputs (ap₂ (λ a b. a + b) lines registers) ∙ formed.one_driver (r.back w) (back_below w lt));
      }
