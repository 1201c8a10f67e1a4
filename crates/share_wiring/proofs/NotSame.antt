-- A masked net with one share of an output inverted is not the same as the original.
use Rattle.std.proofs.Common.{◌≡◌, ◌≢◌, ◌<◌, ◌≤◌, ◌+◌, ◌==◌, ◌&&◌, ◌||◌, ◌++◌, ◌^◌, ℕ, zero, suc, Bool, true, false, not, cond, List, [], ◌∷◌, Some, map, filter, flat_map, reverse, length, count_by, is_none, IsTrue, slice_get, slice_index_or, bytes_eq, codes, refl, sym, ap, ap₂, subst, ◌∙◌, inl, inr, arith, eq-eqb, ne_eqb, zero-add}
use Rattle.std.specs.List.{AllByRecursion, list_any, range_with_len}
use Rattle.std.specs.Option.{option_map_or}
use Rattle.std.proofs.lemmas.Bool.{eqb-true, cases_Bool, cases_eq, cases_lt, and_parts, both_ways, cond-true, cond-false, false_from_ne_true}
use Rattle.std.proofs.lemmas.List.{length-map}
use Rattle.std.proofs.lemmas.List.FromFn.{length-map-range_with_len, get_or-map-range_with_len}
use Rattle.std.proofs.lemmas.List.Sums.{sum_by-append}
use Rattle.std.proofs.lemmas.Slice.Eq.{bytes_eq-Decides}
use Rattle.agm_net.specs.Formula.{Formula, xor, value, stands, reads_below}
use Rattle.agm_net.specs.Plain.{Line, Stored, PlainNet, is_in, is_input, input_bits, clock_bits, data_ports}
use Rattle.agm_net.specs.Role.{share_name, state_name}
use Rattle.agm_net.specs.Run.{Driver, d_input, d_clock, d_equation, d_register, HasDriver, driver}
use Rattle.agm_net.specs.Trace.{Row, row_at, bit_at, Holds, IsTrace}
use Rattle.agm_net.specs.Loop.{reads, IsChain, last_of, HasNoLoop}
use Rattle.agm_net.specs.WellFormed.{Differ, WellFormed, is_clock_port}
use Rattle.agm_net.specs.declared.mark.Mark.{Mark}
use Rattle.agm_net.specs.declared.port.Way.TheVariants.{Input}
use Rattle.agm_net.specs.declared.port.Port.{Port}
use Rattle.agm_net.proofs.Formulas.{reads_are_below, same_value}
use Rattle.agm_net.proofs.Lists.{all_found, all_from, all_of_one, all_places, count_some, found_of_all, map_same, place_of_any, get_image}
use Rattle.agm_net.proofs.Wires.{lines_fit, ports_bits, registers_fit}
use Rattle.agm_net.proofs.Driving.{driven_is_wire, is_driver}
use Rattle.share_wiring.specs.Recombine.{xor_rows, recombined_rows, port_value, is_shared, masked_value}
use Rattle.share_wiring.specs.Shape.{Shape, Header, header_of}
use Rattle.share_wiring.specs.Schedule.{Drives, reading_cycle}
use Rattle.share_wiring.specs.Same.{Same}
use Rattle.share_wiring.specs.Inverted.{inverted_line, inverted_at, IsUnread, IsShareOf, IsDriven}
use Rattle.share_wiring.specs.declared.report.Report.{Report}
use Rattle.share_wiring.proofs.Lists.{all_both, agree_at}
use Rattle.share_wiring.proofs.Driven.{bit_within, filtered, same_on, way_is, within_mapped}
use Rattle.share_wiring.proofs.Inverted.{inverted_value, inverted_well_formed, stands_same}
use Rattle.share_wiring.proofs.Names.{names_apart}
use Rattle.share_wiring.proofs.Ports.{bits_named}
use Rattle.share_wiring.proofs.ShapePorts.{IsOneOf, HasPort, bit_count, data_port, one_at, port_bits, public_port, share_port, width}

-- ---- rows of which one differs recombine differently

bit_left : (a x y : Bool) → xor a x ≡ xor a y → x ≡ y
bit_left false x y e = e
bit_left true false false e = refl
bit_left true false true e = absurd (cc)
bit_left true true false e = absurd (cc)
bit_left true true true e = refl

bit_right : (a b x : Bool) → xor a x ≡ xor b x → a ≡ b
bit_right false false x e = refl
bit_right false true false e = absurd (cc)
bit_right false true true e = absurd (cc)
bit_right true false false e = absurd (cc)
bit_right true false true e = absurd (cc)
bit_right true true x e = refl

row_left : (a x y : Row) → length x ≡ length a → length y ≡ length a → xor_rows a x ≡ xor_rows a y → x ≡ y
row_left [] [] [] p q e = refl
row_left [] (x ∷ xs) y p q e = absurd (omega arith)
row_left [] [] (y ∷ ys) p q e = absurd (omega arith)
row_left (a ∷ cs) [] y p q e = absurd (omega arith)
row_left (a ∷ cs) (x ∷ xs) [] p q e = absurd (omega arith)
row_left (a ∷ cs) (x ∷ xs) (y ∷ ys) p q e =
    let head : xor a x ≡ xor a y = cc in
    let tail : xor_rows cs xs ≡ xor_rows cs ys = cc in
    ap₂ (λ z zs. z ∷ zs) (bit_left a x y head) (row_left cs xs ys (omega arith) (omega arith) tail)

row_right : (a b x : Row) → length a ≡ length x → length b ≡ length x → xor_rows a x ≡ xor_rows b x → a ≡ b
row_right [] [] x p q e = refl
row_right [] (b ∷ bs) [] p q e = absurd (omega arith)
row_right [] (b ∷ bs) (x ∷ xs) p q e = absurd (omega arith)
row_right (a ∷ cs) b [] p q e = absurd (omega arith)
row_right (a ∷ cs) [] (x ∷ xs) p q e = absurd (omega arith)
row_right (a ∷ cs) (b ∷ bs) (x ∷ xs) p q e =
    let head : xor a x ≡ xor b x = cc in
    let tail : xor_rows cs xs ≡ xor_rows bs xs = cc in
    ap₂ (λ z zs. z ∷ zs) (bit_right a b x head) (row_right cs bs xs (omega arith) (omega arith) tail)

xor_count : (n : ℕ) (xs ys : Row) → length xs ≡ n → length ys ≡ n → length (xor_rows xs ys) ≡ n
xor_count n [] ys p q = p
xor_count n (x ∷ xs) [] p q = absurd (omega arith)
xor_count zero (x ∷ xs) (y ∷ ys) p q = absurd (omega arith)
xor_count (suc n) (x ∷ xs) (y ∷ ys) p q = ap suc (xor_count n xs ys (omega arith) (omega arith))

rows_count : (d n : ℕ) (f : ℕ → Row) → ((j : ℕ) → j ≤ d → length (f j) ≡ n) → length (recombined_rows d f) ≡ n
rows_count zero n f h = h 0 (omega arith)
rows_count (suc d) n f h = xor_count n (recombined_rows d f) (f (suc d)) (rows_count d n f (λ j le. h j (omega arith))) (h (suc d) (omega arith))

same_rows : (d : ℕ) (f g : ℕ → Row) → ((j : ℕ) → j ≤ d → f j ≡ g j) → recombined_rows d f ≡ recombined_rows d g
same_rows zero f g h = h 0 (omega arith)
same_rows (suc d) f g h = ap₂ xor_rows (same_rows d f g (λ j le. h j (omega arith))) (h (suc d) (omega arith))

one_row : (d i n : ℕ) (f g : ℕ → Row) → i ≤ d → ((j : ℕ) → j ≤ d → length (f j) ≡ n) → ((j : ℕ) → j ≤ d → length (g j) ≡ n) → ((j : ℕ) → j ≤ d → j ≢ i → f j ≡ g j)
    → recombined_rows d f ≡ recombined_rows d g → f i ≡ g i
one_row zero i n f g le p q others e = let none : 0 ≡ i = omega arith in subst (λ k. f k ≡ g k) none e
one_row (suc d) i n f g le p q others e =
    let fs = rows_count d n f (λ j l. p j (omega arith)) in
    let gs = rows_count d n g (λ j l. q j (omega arith)) in
    let fl = p (suc d) (omega arith) in
    let gl = q (suc d) (omega arith) in
    elim (cases_eq (suc d) i) [
      | inl last ↦ (
          let before : recombined_rows d f ≡ recombined_rows d g = same_rows d f g (λ j l. others j (omega arith) (λ is. omega (arith, l, last, is))) in
          let here : xor_rows (recombined_rows d f) (f (suc d)) ≡ xor_rows (recombined_rows d f) (g (suc d)) = e ∙ ap (λ r. xor_rows r (g (suc d))) (sym before) in
          subst (λ k. f k ≡ g k) last (row_left (recombined_rows d f) (f (suc d)) (g (suc d)) (fl ∙ sym fs) (gl ∙ sym fs) here))
      | inr apart ↦ (
          let last : f (suc d) ≡ g (suc d) = others (suc d) (omega arith) apart in
          let here : xor_rows (recombined_rows d f) (f (suc d)) ≡ xor_rows (recombined_rows d g) (f (suc d)) = e ∙ ap (xor_rows (recombined_rows d g)) (sym last) in
          one_row d i n f g (omega (arith, le, apart)) (λ j l. p j (omega arith)) (λ j l. q j (omega arith)) (λ j l other. others j (omega arith) other)
          (row_right (recombined_rows d f) (recombined_rows d g) (f (suc d)) (fs ∙ sym fl) (gs ∙ sym fl) here))
    ]

-- ---- the net

reads_same : (u w v : ℕ) (lines : List Line) → list_any (λ l. (l.0 == w) && stands v l.1) (map (inverted_line u) lines) ≡ list_any (λ l. (l.0 == w) && stands v l.1) lines
reads_same u w v [] = refl
reads_same u w v (l ∷ ls) = ap₂ (λ a b. ((l.0 == w) && a) || b) (stands_same v u l) (reads_same u w v ls)

chain_same : (u : ℕ) (net : PlainNet) (w : ℕ) (ws : List ℕ) → IsChain (reads (inverted_at u net)) w ws → IsChain (reads net) w ws
chain_same u net w [] c = tt
chain_same u net w (v ∷ vs) c = (sym (reads_same u w v net.lines) ∙ c.0, chain_same u net v vs c.1)

still_no_loop : (u : ℕ) (net : PlainNet) → HasNoLoop net → HasNoLoop (inverted_at u net)
still_no_loop u net none [] is = is
still_no_loop u net none (w ∷ ws) is = none (w ∷ ws) (chain_same u net w ws is.0, sym (reads_same u (last_of w ws) w net.lines) ∙ is.1)

-- the bits with that of wire u inverted
abbrev flip : ℕ → (ℕ → Bool) → ℕ → Bool
flip u bit w = cond (w == u) (not (bit w)) (bit w)

flip_other : (u : ℕ) (bit : ℕ → Bool) (w : ℕ) → w ≢ u → flip u bit w ≡ bit w
flip_other u bit w other = cond-false (w == u) (not (bit w)) (bit w) (ne_eqb w u other)

-- equations that do not read u hold of the new bits, that of u inverted
flipped_hold : (n u : ℕ) (bit bit' : ℕ → Bool) (lines : List Line) → ((w : ℕ) → w < n → bit' w ≡ flip u bit w) → AllByRecursion (λ l. (l.0 < n) × IsTrue (reads_below n l.1)) lines
    → AllByRecursion (λ l. stands u l.1 ≡ false) lines → Holds bit lines → Holds bit' (map (inverted_line u) lines)
flipped_hold n u bit bit' [] is fits unread h = tt
flipped_hold n u bit bit' (l ∷ ls) is fits unread h =
    let same : value bit' l.1 ≡ value bit l.1 =
    same_value bit' bit l.1 (λ w s. is w (reads_are_below n l.1 fits.0.1 w s) ∙ flip_other u bit w (λ e. both_ways (stands u l.1) unread.0 (ap (λ k. stands k l.1) (sym e) ∙ s))) in
    let here : bit' l.0 ≡ value bit' (inverted_line u l).1 =
    is l.0 fits.0.0 ∙ (ap (λ x. cond (l.0 == u) (not x) x) (h.0 ∙ sym same) ∙ sym (inverted_value bit' u l)) in
    (here, flipped_hold n u bit bit' ls is fits.1 unread.1 h.1)

module _ (net : PlainNet) (u : ℕ) (power : Row) (tape table : List Row) (well : WellFormed net) (unread : IsUnread net u) (line : IsTrue (list_any (λ l. l.0 == u) net.lines)) (trace : IsTrace net power tape table) where
  abbrev n : ℕ
  n = length net.wires

  abbrev pub flipped : List Row
  flipped = map (λ t. map (flip u (bit_at table t)) (range_with_len 0 n)) (range_with_len 0 (length table))

  count : length flipped ≡ length table
  count = length-map-range_with_len (λ t. map (flip u (bit_at table t)) (range_with_len 0 n)) 0 (length table)

  flipped_row : (t : ℕ) → t < length table → row_at flipped t ≡ map (flip u (bit_at table t)) (range_with_len 0 n)
  flipped_row t lt = get_or-map-range_with_len (λ k. map (flip u (bit_at table k)) (range_with_len 0 n)) 0 (length table) t t [] lt (zero-add t)

  pub flipped_bit : (t w : ℕ) → t < length table → w < n → bit_at flipped t w ≡ flip u (bit_at table t) w
  flipped_bit t w lt below = ap (λ row. slice_index_or row w false) (flipped_row t lt) ∙ get_or-map-range_with_len (flip u (bit_at table t)) 0 n w w false below (zero-add w)

  -- u is driven by an equation
  own_line : (f : Formula) × (driver net u ≡ d_equation f)
  own_line =
      let found = place_of_any (λ (l : Line). l.0 == u) net.lines line in
      (found.1.1, is_driver net well (d_equation found.1.1) u (found.0, found.2 ∙ ap (λ v. Some (v, found.1.1)) (eqb-true found.1.0 u found.3)))

  -- a wire that something else drives stays
  stays : (t w : ℕ) (d : Driver) → t < length table → HasDriver net d w → ((f : Formula) → d ≢ d_equation f) → bit_at flipped t w ≡ bit_at table t w
  stays t w d lt h other =
      flipped_bit t w lt (driven_is_wire net well d w h) ∙ flip_other u (bit_at table t) w (λ e. other own_line.0 (sym (is_driver net well d w h) ∙ (ap (driver net) e ∙ own_line.1)))

  outputs_stay : (t : ℕ) → t < length table → AllByRecursion (λ r. bit_at flipped t r.q ≡ bit_at table t r.q) net.registers
  outputs_stay t lt = all_places (λ (r : Stored). bit_at flipped t r.q ≡ bit_at table t r.q) net.registers (λ n r at. stays t r.q (d_register n r.next) lt (r, at, refl, refl) (λ f e. cc))

  pub flipped_trace : IsTrace (inverted_at u net) power tape flipped
  flipped_trace = record {
    as_long = count ∙ trace.as_long;
    as_wide = λ t lt. ap length (flipped_row t (omega (arith, count, lt))) ∙ length-map-range_with_len (flip u (bit_at table t)) 0 n;
    equations_hold = λ t lt.
        let within : t < length table = omega (arith, count, lt) in
        flipped_hold n u (bit_at table t) (bit_at flipped t) net.lines (λ w below. flipped_bit t w within below) (lines_fit net well) unread.0 (trace.equations_hold t within);
    inputs_given = λ t lt.
        let within : t < length table = omega (arith, count, lt) in
        map_same (bit_at flipped t) (bit_at table t) (input_bits net) (all_places (λ w. bit_at flipped t w ≡ bit_at table t w) (input_bits net) (λ n w at. stays t w (d_input n) within at (λ f e. cc))) ∙ trace.inputs_given t within;
    clock_is_low = λ t lt.
        let within : t < length table = omega (arith, count, lt) in
        all_found (λ w. bit_at flipped t w ≡ false) (clock_bits net) (λ w found. stays t w d_clock within found (λ f e. cc) ∙ found_of_all (λ v. bit_at table t v ≡ false) (clock_bits net) (trace.clock_is_low t within) w found);
    power_given = λ some. map_same (λ (r : Stored). bit_at flipped 0 r.q) (λ r. bit_at table 0 r.q) net.registers (outputs_stay 0 (omega (arith, count, some))) ∙ trace.power_given (omega (arith, count, some));
    registers_step = λ t lt.
        let next : t + 1 < length table = omega (arith, count, lt) in
        let now : t < length table = omega (arith, count, lt) in
        let same = all_both (λ r. (r.q < n) × IsTrue (reads_below n r.next)) (λ r. stands u r.next ≡ false) (λ r. value (bit_at flipped t) r.next ≡ value (bit_at table t) r.next)
        (λ r fits apart. same_value (bit_at flipped t) (bit_at table t) r.next
        (λ w s. flipped_bit t w now (reads_are_below n r.next fits.1 w s) ∙ flip_other u (bit_at table t) w (λ e. both_ways (stands u r.next) apart (ap (λ k. stands k r.next) (sym e) ∙ s))))
        net.registers (registers_fit net well) unread.1 in
        let step = all_both (λ r. bit_at flipped (t + 1) r.q ≡ bit_at table (t + 1) r.q) (λ r. bit_at table (t + 1) r.q ≡ value (bit_at table t) r.next) (λ r. bit_at flipped (t + 1) r.q ≡ value (bit_at table t) r.next) (λ r a b. a ∙ b) net.registers (outputs_stay (t + 1) next) (trace.registers_step t next) in
        all_both (λ r. bit_at flipped (t + 1) r.q ≡ value (bit_at table t) r.next) (λ r. value (bit_at flipped t) r.next ≡ value (bit_at table t) r.next) (λ r. bit_at flipped (t + 1) r.q ≡ value (bit_at flipped t) r.next) (λ r a b. a ∙ sym b) net.registers step same;
  }

-- ---- ports

some_bit : (u m : ℕ) (q : Port) (ports : List Port) → slice_get ports m ≡ Some q → IsTrue (list_any (λ b. b == u) q.bits) → 1 ≤ count_by (λ b. b == u) (flat_map (λ p. p.bits) ports)
some_bit u m q [] at h = absurd (cc)
some_bit u zero q (p ∷ ps) at h =
    let is : p ≡ q = cc in
    let split = sum_by-append (λ b. cond (b == u) 1 0) p.bits (flat_map (λ r. r.bits) ps) in
    let some = count_some (λ b. b == u) p.bits (ap (λ (r : Port). list_any (λ b. b == u) r.bits) is ∙ h) in omega (arith, split, some)
some_bit u (suc m) q (p ∷ ps) at h =
    let split = sum_by-append (λ b. cond (b == u) 1 0) p.bits (flat_map (λ r. r.bits) ps) in
    let rest = some_bit u m q ps at h in omega (arith, split, rest)

no_bits : (u : ℕ) (ports : List Port) → count_by (λ b. b == u) (flat_map (λ p. p.bits) ports) ≡ 0 → AllByRecursion (λ p. list_any (λ b. b == u) p.bits ≡ false) ports
no_bits u [] e = tt
no_bits u (p ∷ ps) e =
    let split = sum_by-append (λ b. cond (b == u) 1 0) p.bits (flat_map (λ r. r.bits) ps) in (
      false_from_ne_true (list_any (λ b. b == u) p.bits) (λ h. let some = count_some (λ b. b == u) p.bits h in omega (arith, split, some, e)),
      no_bits u ps (omega (arith, split, e)),
    )

-- a wire is a bit of one port alone
bit_of_one : (u m : ℕ) (q : Port) (ports : List Port) → slice_get ports m ≡ Some q → IsTrue (list_any (λ b. b == u) q.bits) → count_by (λ b. b == u) (flat_map (λ p. p.bits) ports) ≤ 1
    → AllByRecursion (λ p. p.name ≢ q.name → list_any (λ b. b == u) p.bits ≡ false) ports
bit_of_one u m q [] at h once = tt
bit_of_one u zero q (p ∷ ps) at h once =
    let is : p ≡ q = cc in
    let split = sum_by-append (λ b. cond (b == u) 1 0) p.bits (flat_map (λ r. r.bits) ps) in
    let some = count_some (λ b. b == u) p.bits (ap (λ (r : Port). list_any (λ b. b == u) r.bits) is ∙ h) in (
      (λ other. absurd (other (ap (λ (r : Port). r.name) is))),
      all_from (λ r. list_any (λ b. b == u) r.bits ≡ false) (λ r. r.name ≢ q.name → list_any (λ b. b == u) r.bits ≡ false) (λ r none other. none) ps (no_bits u ps (omega (arith, split, some, once))),
    )
bit_of_one u (suc m) q (p ∷ ps) at h once =
    let split = sum_by-append (λ b. cond (b == u) 1 0) p.bits (flat_map (λ r. r.bits) ps) in
    let some = some_bit u m q ps at h in (
      (λ other. false_from_ne_true (list_any (λ b. b == u) p.bits) (λ own. let one = count_some (λ b. b == u) p.bits own in omega (arith, split, some, one, once))),
      bit_of_one u m q ps at h (omega (arith, split, once)),
    )

-- the bits of a name that is another port's
other_named : (x y : ℕ → Bool) (name : List ℕ) (ports : List Port) → AllByRecursion (λ p. IsTrue (bytes_eq p.name name) → map x p.bits ≡ map y p.bits) ports → bits_named x name ports ≡ bits_named y name ports
other_named x y name [] h = refl
other_named x y name (p ∷ ps) h =
    let rest = other_named x y name ps h.1 in
    elim (cases_Bool (bytes_eq p.name name)) [ inl is ↦ rw is (ap₂ (λ a b. a ++ b) (h.0 is) rest) | inr other ↦ rw other rest ]

-- ports of one name are one port
same_number : (ports : List Port) (a b : ℕ) (p q : Port) → Differ (map (λ r. r.name) ports) → slice_get ports a ≡ Some p → slice_get ports b ≡ Some q → p.name ≡ q.name → a ≡ b
same_number ports a b p q differ at there e =
    let name : Port → List ℕ = λ r. r.name in
    let alike = get_image name ports a p at ∙ (ap (λ x. Some x) e ∙ sym (get_image name ports b q there)) in
    elim (cases_lt a b) [
      | inl less ↦ absurd (differ a b less (within_mapped name ports b q there) alike)
      | inr most ↦ elim (cases_eq a b) [
        | inl same ↦ same
        | inr other ↦ absurd (differ b a (omega (arith, most, other)) (within_mapped name ports a p at) (sym alike))
      ]
    ]

row_past : (table : List Row) (t : ℕ) → length table ≤ t → row_at table t ≡ []
row_past [] t le = refl
row_past (row ∷ rows) zero le = absurd (omega arith)
row_past (row ∷ rows) (suc t) le = row_past rows t (omega arith)

no_inverse : (b : Bool) → b ≡ not b → ⊥
no_inverse false e = cc
no_inverse true e = cc

module _ (original : PlainNet) (marks : List Mark) (report : Report) (net : PlainNet) (n i m u : ℕ) (p q : Port)
    (first : WellFormed original) (well : WellFormed net) (same : Same original marks report net) (few : report.order < 2 ^ 32)
    (output : IsShareOf original report net n i m u p q) (unread : IsUnread net u) (line : IsTrue (list_any (λ l. l.0 == u) net.lines)) where
  abbrev wrong : PlainNet
  wrong = inverted_at u net

  pub wrong_well_formed : WellFormed wrong
  wrong_well_formed = inverted_well_formed u net well

  pub wrong_has_shape : Shape original report wrong
  wrong_has_shape = record { headers = same.shape.headers; clock = same.shape.clock }

  pub wrong_has_no_loop : HasNoLoop wrong
  wrong_has_no_loop = still_no_loop u net same.no_loop

  ports_below : AllByRecursion (λ r. AllByRecursion (λ w. w < length net.wires) r.bits) net.ports
  ports_below = ports_bits net well

  -- the wire is no input's
  input_apart : (h : Header) → h.way ≡ Input → HasPort net h → h.name ≢ q.name
  input_apart h input found e =
      let name = ap (λ (x : Header). x.name) found.is in
      let number = same_number net.ports found.number m found.port q well.ports_right.ports_differ found.at output.there (name ∙ e) in
      let is : found.port ≡ q = (let both : Some found.port ≡ Some q = sym found.at ∙ (ap (slice_get net.ports) number ∙ output.there) in cc) in
      let way : is_input q ≡ true = ap is_input (sym is) ∙ (ap (λ (x : Header). is_in x.way) found.is ∙ ap is_in input) in
      let bits = count_some (λ b. b == u) (flat_map (λ r. r.bits) (filter is_input net.ports)) (bit_within q net.ports u (one_at q net.ports m output.there) way output.own) in
      let lines = count_some (λ (l : Line). l.0 == u) net.lines line in
      let below = found_of_all (λ w. w < length net.wires) q.bits (all_of_one (λ r. AllByRecursion (λ w. w < length net.wires) r.bits) net.ports m q ports_below output.there) u output.own in
      let driven = well.one_driver u below in
      omega (arith, bits, lines, driven)

  -- the port that is shared is not the clock's
  own_data : IsOneOf p (data_ports original)
  own_data = data_port original n p output.at (λ clock.
      let fits = first.ports_right.clock_fits n clock in
      let here : IsTrue (is_clock_port p) = ap (λ o. option_map_or is_clock_port o false) (sym output.at) ∙ fits in
      let input = (and_parts (is_input p) (is_none p.range) here).0 in
      let out : is_input p ≡ false = ap is_in output.way in
      both_ways (is_input p) out input)

  module _ (d : IsDriven original marks report net) where
    abbrev table : List Row
    table = flipped net u d.power d.tape d.table well unread line d.trace

    rows_are : length table ≡ length d.table
    rows_are = length-map-range_with_len (λ t. map (flip u (bit_at d.table t)) (range_with_len 0 (length net.wires))) 0 (length d.table)

    -- bits of other ports stay
    wires_stay : (t w : ℕ) → w < length net.wires → w ≢ u → bit_at table t w ≡ bit_at d.table t w
    wires_stay t w below other =
        elim (cases_lt t (length d.table)) [
          | inl lt ↦ flipped_bit net u d.power d.tape d.table well unread line d.trace t w lt below ∙ flip_other u (bit_at d.table t) w other
          | inr ge ↦ ap (λ row. slice_index_or row w false) (row_past table t (omega (arith, rows_are, ge))) ∙ sym (ap (λ row. slice_index_or row w false) (row_past d.table t ge))
        ]

    port_stays : (t : ℕ) (name : List ℕ) → name ≢ q.name → port_value wrong name (bit_at table t) ≡ port_value net name (bit_at d.table t)
    port_stays t name other =
        other_named (bit_at table t) (bit_at d.table t) name net.ports
        (all_both (λ r. r.name ≢ q.name → list_any (λ b. b == u) r.bits ≡ false) (λ r. AllByRecursion (λ w. w < length net.wires) r.bits) (λ r. IsTrue (bytes_eq r.name name) → map (bit_at table t) r.bits ≡ map (bit_at d.table t) r.bits)
        (λ r none below is.
        let apart = none (λ e. other (sym ((bytes_eq-Decides r.name name).0 is) ∙ e)) in
        same_on (bit_at table t) (bit_at d.table t) r.bits (λ w found. wires_stay t w (found_of_all (λ v. v < length net.wires) r.bits below w found) (λ e. both_ways (list_any (λ b. b == u) r.bits) apart (ap (λ k. list_any (λ b. b == k) r.bits) (sym e) ∙ found))))
        net.ports (bit_of_one u m q net.ports output.there output.own (well.ports_right.one_port u)) ports_below)

    value_stays : (t : ℕ) (x : Port) → IsOneOf x (data_ports original) → is_input x ≡ true → masked_value wrong report x.name (bit_at table t) ≡ masked_value net report x.name (bit_at d.table t)
    value_stays t x one input =
        let way = way_is x.way input in
        elim (cases_Bool (is_shared report x.name)) [
          | inl is ↦ rw is (same_rows report.order (λ j. port_value wrong (share_name j x.name) (bit_at table t)) (λ j. port_value net (share_name j x.name) (bit_at d.table t))
              (λ j le. port_stays t (share_name j x.name) (input_apart (record { name = share_name j x.name; way = x.way; range = x.range }) way (share_port original report net same.shape x j one is le))))
          | inr is ↦ rw is (port_stays t x.name (input_apart (header_of x) way (public_port original report net same.shape x one is)))
        ]

    drives : Drives original d.secrets report wrong d.streams d.steps table
    drives = record {
      as_many = d.drives.as_many;
      as_long = d.drives.as_long;
      load = λ t lt. port_stays t (codes "agm_load") (λ e. (let all : codes "agm_load" ≡ share_name i p.name = e ∙ output.named in let r : ◌≡◌ {A = ℕ} 108 115 = cc in absurd (omega (arith, r)))) ∙ d.drives.load t (omega (arith, rows_are, lt));
      public_state = λ s lt. ap reverse (port_stays s (codes "agm_q_p") (λ e. (let all : codes "agm_q_p" ≡ share_name i p.name = e ∙ output.named in let r : ◌≡◌ {A = ℕ} 113 115 = cc in absurd (omega (arith, r))))) ∙ d.drives.public_state s lt;
      secret_state = λ s lt. ap reverse
          (same_rows report.order (λ j. port_value wrong (state_name j) (bit_at table s)) (λ j. port_value net (state_name j) (bit_at d.table s))
          (λ j le. port_stays s (state_name j) (λ e. (let all : state_name j ≡ share_name i p.name = e ∙ output.named in let r : ◌≡◌ {A = ℕ} 113 115 = cc in absurd (omega (arith, r))))))
          ∙ d.drives.secret_state s lt;
      inputs = λ s k t lt less is.
          filtered (λ x. masked_value wrong report x.name (bit_at table t)) (λ x. masked_value net report x.name (bit_at d.table t)) is_input (data_ports original)
          (λ a x here input. value_stays t x (one_at x (data_ports original) a here) input)
          ∙ d.drives.inputs s k t lt less is;
      is_read = λ s k lt less. let read = d.drives.is_read s k lt less in omega (arith, read, rows_are);
    }

    abbrev at : ℕ
    at = reading_cycle report.balance report.period report.latency d.stream d.step

    -- the row of a share
    share_count : (x : PlainNet) (bit : ℕ → Bool) (j : ℕ) → WellFormed x → x.ports ≡ net.ports → Shape original report x → j ≤ report.order → length (port_value x (share_name j p.name) bit) ≡ width p.range
    share_count x bit j formed ports shape le =
        let found = share_port original report x shape p j own_data output.shared le in
        let name = ap (λ (h : Header). h.name) found.is in
        let range = ap (λ (h : Header). h.range) found.is in
        ap (λ (bits : List Bool). length bits) (ap (λ z. port_value x z bit) (sym name) ∙ port_bits x formed found.number found.port found.at bit)
        ∙ (length-map found.port.bits bit ∙ (bit_count x formed found.number found.port found.at ∙ ap width range))

    pub is_not_same : Same original marks report wrong → ⊥
    is_not_same claimed =
        let right = same.outputs d.power d.tape d.table d.secrets d.streams d.steps d.trace d.tells d.drives d.stream d.step d.first d.within.0 d.within.1 d.runs n p output.at output.way in
        let also = claimed.outputs d.power d.tape table d.secrets d.streams d.steps (flipped_trace net u d.power d.tape d.table well unread line d.trace) d.tells drives d.stream d.step d.first d.within.0 d.within.1 d.runs n p output.at output.way in
        let f : ℕ → Row = λ j. port_value net (share_name j p.name) (bit_at d.table at) in
        let g : ℕ → Row = λ j. port_value wrong (share_name j p.name) (bit_at table at) in
        let rows : recombined_rows report.order f ≡ recombined_rows report.order g =
        sym (cond-true (is_shared report p.name) (recombined_rows report.order f) (port_value net p.name (bit_at d.table at)) output.shared)
        ∙ (right ∙ (sym also ∙ cond-true (is_shared report p.name) (recombined_rows report.order g) (port_value wrong p.name (bit_at table at)) output.shared)) in
        let row : f i ≡ g i =
        one_row report.order i (width p.range) f g output.index (λ j le. share_count net (bit_at d.table at) j well refl same.shape le) (λ j le. share_count wrong (bit_at table at) j wrong_well_formed refl wrong_has_shape le)
        (λ j le other. sym (port_stays at (share_name j p.name) (λ e. other (let index = output.index in (names_apart j i p.name p.name (omega (arith, le, few)) (omega (arith, index, few)) (e ∙ output.named)).0))))
        rows in
        let bits : map (bit_at d.table at) q.bits ≡ map (bit_at table at) q.bits =
        sym (port_bits net well m q output.there (bit_at d.table at)) ∙ (ap (λ z. port_value net z (bit_at d.table at)) output.named
        ∙ (row ∙ (ap (λ z. port_value wrong z (bit_at table at)) (sym output.named) ∙ port_bits wrong wrong_well_formed m q output.there (bit_at table at)))) in
        let below = found_of_all (λ w. w < length net.wires) q.bits (all_of_one (λ r. AllByRecursion (λ w. w < length net.wires) r.bits) net.ports m q ports_below output.there) u output.own in
        let read = d.drives.is_read d.stream d.step d.within.0 d.within.1 in
        let inverse : bit_at table at u ≡ not (bit_at d.table at u) =
        flipped_bit net u d.power d.tape d.table well unread line d.trace at u read below ∙ cond-true (u == u) (not (bit_at d.table at u)) (bit_at d.table at u) (eq-eqb u u refl) in
        no_inverse (bit_at d.table at u) (agree_at (bit_at d.table at) (bit_at table at) q.bits bits u output.own ∙ inverse)
