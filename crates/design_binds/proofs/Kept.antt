-- The wires of a net, each with its one driver, are all kept.
use Rattle.std.proofs.Common.{◌≡◌, ◌<◌, ◌+◌, ◌==◌, ◌&&◌, ℕ, zero, suc, Bool, true, false, cond, List, [], ◌∷◌, ◌++◌, length, map, filter, count_by, nat_lt, get_or, Option, Some, None, slice_get, refl, sym, ap, ap₂, ◌∙◌, inl, inr, arith, zero-add}
use Rattle.std.specs.List.{AllByRecursion, flat_map, list_all, range_with_len, find}
use Rattle.std.specs.Option.{option_map}
use Rattle.std.proofs.lemmas.Bool.{and_parts, ltb-true, cases_Bool}
use Rattle.std.proofs.lemmas.List.FromFn.{get_or-map-range_with_len, fill_by_all}
use Rattle.std.proofs.lemmas.Option.{slice_get_within}
use Rattle.agm_net.specs.Formula.{Formula, f_zero, f_one, f_wire, f_not, f_and, f_or, f_xor, f_mux, reads_below}
use Rattle.agm_net.specs.Plain.{Line, Stored, PlainNet, bit_names, is_input}
use Rattle.agm_net.specs.WellFormed.{drivers, WellFormed}
use Rattle.agm_net.specs.Renumbered.{renumbered, renumbered_port}
use Rattle.agm_net.specs.declared.port.Port.{Port}
use Rattle.design_binds.proofs.Among.{count-yes, count-no, count-append}
use Rattle.design_binds.proofs.Apart.{all_by_place}
use Rattle.wire_drivers.specs.Wiring.{PlainLine, PlainFlop, Wiring, wires_of, driven, times, is_wrong, is_wrong_count, first_wrong, is_kept, numbers, kept_name, kept_line, kept_flop, kept_net, read}
use Rattle.wire_drivers.specs.Wiring as wiring
use Rattle.wire_drivers.specs.declared.types.Wrong.{Wrong}
use Rattle.design_binds.proofs.Gathered.{line_of, flop_of}

-- the wires of a net with what drives and reads them
abbrev pub wiring_from : PlainNet → Wiring
wiring_from net = record { ports = net.ports; wires = net.wires; lines = map line_of net.lines; flops = map flop_of net.registers }

-- drivers are counted alike

lines_counted : (v : ℕ) (ls : List Line) → count_by (λ w. w == v) (flat_map (λ l. wires_of l.0) (map line_of ls)) ≡ count_by (λ l. l.0 == v) ls
lines_counted v [] = refl
lines_counted v (l ∷ ls) =
    elim (cases_Bool (l.0 == v)) [
      | inl e ↦ let a = count-yes (λ (w : ℕ). w == v) l.0 (flat_map (λ k. wires_of k.0) (map line_of ls)) e in let b = count-yes (λ (k : Line). k.0 == v) l ls e in let c = lines_counted v ls in omega arith
      | inr e ↦ let a = count-no (λ (w : ℕ). w == v) l.0 (flat_map (λ k. wires_of k.0) (map line_of ls)) e in let b = count-no (λ (k : Line). k.0 == v) l ls e in let c = lines_counted v ls in omega arith
    ]

flops_counted : (v : ℕ) (rs : List Stored) → count_by (λ w. w == v) (flat_map (λ f. wires_of f.q) (map flop_of rs)) ≡ count_by (λ r. r.q == v) rs
flops_counted v [] = refl
flops_counted v (r ∷ rs) =
    elim (cases_Bool (r.q == v)) [
      | inl e ↦ let a = count-yes (λ (w : ℕ). w == v) r.q (flat_map (λ k. wires_of k.q) (map flop_of rs)) e in let b = count-yes (λ (k : Stored). k.q == v) r rs e in let c = flops_counted v rs in omega arith
      | inr e ↦ let a = count-no (λ (w : ℕ). w == v) r.q (flat_map (λ k. wires_of k.q) (map flop_of rs)) e in let b = count-no (λ (k : Stored). k.q == v) r rs e in let c = flops_counted v rs in omega arith
    ]

same_drivers : (net : PlainNet) (v : ℕ) → wiring.drivers (wiring_from net) v ≡ drivers net v
same_drivers net v =
    let inputs = flat_map (λ (p : Port). p.bits) (filter is_input net.ports) in
    let lines = flat_map (λ (l : PlainLine). wires_of l.0) (map line_of net.lines) in
    let flops = flat_map (λ (f : PlainFlop). wires_of f.q) (map flop_of net.registers) in
    let test = λ (w : ℕ). w == v in
    let all = count-append test inputs (lines ++ flops) in
    let rest = count-append test lines flops in
    let a = lines_counted v net.lines in
    let b = flops_counted v net.registers in
    omega arith

-- lists over numbers

find_none : (test : ℕ → Bool) (a n : ℕ) → ((v : ℕ) → v < a + n → test v ≡ false) → find test (range_with_len a n) ≡ None
find_none test a zero h = refl
find_none test a (suc n) h = rw (h a (omega arith)) (find_none test (a + 1) n (λ v lt. h v (omega arith)))

count_all : (test : ℕ → Bool) (a n : ℕ) → ((v : ℕ) → v < a + n → test v ≡ true) → count_by test (range_with_len a n) ≡ n
count_all test a zero h = refl
count_all test a (suc n) h =
    let here = count-yes test a (range_with_len (a + 1) n) (h a (omega arith)) in
    let rest = count_all test (a + 1) n (λ v lt. h v (omega arith)) in
    omega arith

flat_singles : (X : Type 0) (f : ℕ → List X) (g : ℕ → X) (a n : ℕ) → ((v : ℕ) → v < a + n → f v ≡ g v ∷ []) → flat_map f (range_with_len a n) ≡ map g (range_with_len a n)
flat_singles X f g a zero h = refl
flat_singles X f g a (suc n) h = ap₂ (λ xs ys. xs ++ ys) (h a (omega arith)) (flat_singles X f g (a + 1) n (λ v lt. h v (omega arith)))

-- formulas whose wires keep their numbers

same_formula : (n : ℕ) (there : ℕ → ℕ) → ((v : ℕ) → v < n → there v ≡ v) → (f : Formula) → reads_below n f ≡ true → renumbered there f ≡ f
same_formula n there same f_zero h = refl
same_formula n there same f_one h = refl
same_formula n there same (f_wire v) h = ap f_wire (same v (ltb-true v n h))
same_formula n there same (f_not x) h = ap f_not (same_formula n there same x h)
same_formula n there same (f_and x y) h =
    let p = and_parts (reads_below n x) (reads_below n y) h in ap₂ f_and (same_formula n there same x p.0) (same_formula n there same y p.1)
same_formula n there same (f_or x y) h =
    let p = and_parts (reads_below n x) (reads_below n y) h in ap₂ f_or (same_formula n there same x p.0) (same_formula n there same y p.1)
same_formula n there same (f_xor x y) h =
    let p = and_parts (reads_below n x) (reads_below n y) h in ap₂ f_xor (same_formula n there same x p.0) (same_formula n there same y p.1)
same_formula n there same (f_mux s x y) h =
    let p = and_parts (reads_below n s) (reads_below n x && reads_below n y) h in
    let q = and_parts (reads_below n x) (reads_below n y) p.1 in
    ap (λ k. f_mux k (renumbered there x) (renumbered there y)) (same_formula n there same s p.0)
    ∙ ap₂ (λ a b. f_mux s a b) (same_formula n there same x q.0) (same_formula n there same y q.1)

abbrev line_fits : ℕ → Line → Bool
line_fits n l = nat_lt l.0 n && reads_below n l.1

same_lines : (n : ℕ) (there : ℕ → ℕ) → ((v : ℕ) → v < n → there v ≡ v) → (ls : List Line) → list_all (line_fits n) ls ≡ true → flat_map (kept_line there) (map line_of ls) ≡ ls
same_lines n there same [] h = refl
same_lines n there same (l ∷ ls) h =
    let p = and_parts (line_fits n l) (list_all (line_fits n) ls) h in
    let q = and_parts (nat_lt l.0 n) (reads_below n l.1) p.0 in
    ap₂ (λ (k : Line) ks. k ∷ ks) (ap₂ (λ v f. let k : Line = (v, f) in k) (same l.0 (ltb-true l.0 n q.0)) (same_formula n there same l.1 q.1)) (same_lines n there same ls p.1)

abbrev register_fits : ℕ → Stored → Bool
register_fits n r = nat_lt r.q n && (reads_below n r.next && nat_lt r.clock n)

same_register : (there : ℕ → ℕ) (r : Stored) → there r.q ≡ r.q → renumbered there r.next ≡ r.next → there r.clock ≡ r.clock
    → (let k : Stored = record { q = there r.q; next = renumbered there r.next; clock = there r.clock } in k) ≡ r
same_register there r a b c =
    ap (λ q. let k : Stored = record { q = q; next = renumbered there r.next; clock = there r.clock } in k) a
    ∙ (ap (λ f. let k : Stored = record { q = r.q; next = f; clock = there r.clock } in k) b
    ∙ ap (λ w. let k : Stored = record { q = r.q; next = r.next; clock = w } in k) c)

same_registers : (n : ℕ) (there : ℕ → ℕ) → ((v : ℕ) → v < n → there v ≡ v) → (rs : List Stored) → list_all (register_fits n) rs ≡ true → flat_map (kept_flop there) (map flop_of rs) ≡ rs
same_registers n there same [] h = refl
same_registers n there same (r ∷ rs) h =
    let p = and_parts (register_fits n r) (list_all (register_fits n) rs) h in
    let q = and_parts (nat_lt r.q n) (reads_below n r.next && nat_lt r.clock n) p.0 in
    let k = and_parts (reads_below n r.next) (nat_lt r.clock n) q.1 in
    ap₂ (λ x xs. x ∷ xs) (same_register there r (same r.q (ltb-true r.q n q.0)) (same_formula n there same r.next k.0) (same r.clock (ltb-true r.clock n k.1))) (same_registers n there same rs p.1)

-- ports

named_below : (wires : List (List ℕ)) (bits : List ℕ) (names : List (List ℕ)) → map (slice_get wires) bits ≡ map (λ name. Some name) names → AllByRecursion (λ b. b < length wires) bits
named_below wires [] names e = tt
named_below wires (b ∷ bs) [] e = absurd (cc)
named_below wires (b ∷ bs) (n ∷ ns) e =
    let here : slice_get wires b ≡ Some n = cc in
    let rest : map (slice_get wires) bs ≡ map (λ name. Some name) ns = cc in
    (slice_get_within wires b n here, named_below wires bs ns rest)

same_bits : (n : ℕ) (there : ℕ → ℕ) → ((v : ℕ) → v < n → there v ≡ v) → (bits : List ℕ) → AllByRecursion (λ b. b < n) bits → map there bits ≡ bits
same_bits n there same [] h = refl
same_bits n there same (b ∷ bs) h = ap₂ (λ x xs. x ∷ xs) (same b h.0) (same_bits n there same bs h.1)

same_ports : (n : ℕ) (there : ℕ → ℕ) → ((v : ℕ) → v < n → there v ≡ v) → (ps : List Port) → AllByRecursion (λ p. AllByRecursion (λ b. b < n) p.bits) ps → map (renumbered_port there) ps ≡ ps
same_ports n there same [] h = refl
same_ports n there same (p ∷ ps) h =
    ap₂ (λ q qs. q ∷ qs) (ap (λ bs. let q : Port = record { name = p.name; way = p.way; range = p.range; bits = bs } in q) (same_bits n there same p.bits h.0)) (same_ports n there same ps h.1)

module _ (net : PlainNet) (formed : WellFormed net) where
  abbrev w : Wiring
  w = wiring_from net

  abbrev n : ℕ
  n = length net.wires

  one : (v : ℕ) → v < n → wiring.drivers w v ≡ 1
  one v lt = same_drivers net v ∙ formed.one_driver v lt

  pub none_wrong : first_wrong w ≡ None
  none_wrong =
      ap (option_map (λ v. let k : Wrong = record { wire = v; drivers = wiring.drivers w v } in k))
      (find_none (is_wrong w) 0 n (λ v lt. ap (λ d. is_wrong_count d (times v (read w))) (one v (omega arith))))

  kept : (v : ℕ) → v < n → is_kept w v ≡ true
  kept v lt = ap (λ d. nat_lt 0 d) (one v lt)

  abbrev there : ℕ → ℕ
  there v = get_or (numbers w) v 0

  same : (v : ℕ) → v < n → there v ≡ v
  same v lt =
      get_or-map-range_with_len (λ k. count_by (is_kept w) (range_with_len 0 k)) 0 n v v 0 lt (zero-add v)
      ∙ count_all (is_kept w) 0 v (λ k below. kept k (omega arith))

  names : flat_map (kept_name w) (range_with_len 0 n) ≡ net.wires
  names =
      flat_singles (List ℕ) (kept_name w) (λ v. get_or net.wires v []) 0 n (λ v lt. ap (λ b. cond b (get_or net.wires v [] ∷ []) []) (kept v (omega arith)))
      ∙ sym (fill_by_all (λ v. get_or net.wires v []) net.wires n [] refl (λ k lt. refl))

  fits : (list_all (line_fits n) net.lines ≡ true) × (list_all (register_fits n) net.registers ≡ true)
  fits = and_parts (list_all (line_fits n) net.lines) (list_all (register_fits n) net.registers) formed.in_range

  below : AllByRecursion (λ p. AllByRecursion (λ b. b < n) p.bits) net.ports
  below = all_by_place (λ p. AllByRecursion (λ b. b < n) p.bits) net.ports (λ k p at. named_below net.wires p.bits (bit_names p.name p.range) (formed.ports_right.bits_named k p at))

  pub all_kept : (clock : Option ℕ) → clock ≡ net.clock → kept_net w clock ≡ net
  all_kept clock e =
      ap (λ ps. let k : PlainNet = record { ports = ps; wires = flat_map (kept_name w) (range_with_len 0 n); lines = flat_map (kept_line there) w.lines; registers = flat_map (kept_flop there) w.flops; clock = clock } in k) (same_ports n there same net.ports below)
      ∙ (ap (λ ws. let k : PlainNet = record { ports = net.ports; wires = ws; lines = flat_map (kept_line there) w.lines; registers = flat_map (kept_flop there) w.flops; clock = clock } in k) names
      ∙ (ap (λ ls. let k : PlainNet = record { ports = net.ports; wires = net.wires; lines = ls; registers = flat_map (kept_flop there) w.flops; clock = clock } in k) (same_lines n there same net.lines fits.0)
      ∙ (ap (λ rs. let k : PlainNet = record { ports = net.ports; wires = net.wires; lines = net.lines; registers = rs; clock = clock } in k) (same_registers n there same net.registers fits.1)
      ∙ ap (λ c. let k : PlainNet = record { ports = net.ports; wires = net.wires; lines = net.lines; registers = net.registers; clock = c } in k) e)))
