-- A masked net stays one where its wires are renumbered.
use Rattle.std.proofs.Common.{◌≡◌, ◌≤◌, ◌<◌, ◌+◌, ◌==◌, ℕ, zero, suc, Bool, true, false, not, ◌&&◌, ◌||◌, cond, List, [], ◌∷◌, ◌++◌, length, map, filter, take, drop, Option, Some, None, slice_index_or, get_or, IsTrue, reverse, codes, refl, sym, ap, ap₂, subst, ◌∙◌, inl, inr, arith, eq-eqb}
use Rattle.std.specs.List.{flat_map, list_any, range_with_len, AllByRecursion}
use Rattle.std.specs.Str.{bytes_eq}
use Rattle.std.proofs.lemmas.Bool.{both_ways, cases_lt, or_cases, or_left, or_right, and_parts, and_from, eqb-true}
use Rattle.std.proofs.lemmas.List.{map-append, length-map, get_or-map, take-map, drop-map}
use Rattle.std.proofs.lemmas.List.FromFn.{get_or-map-range_with_len, length-map-range_with_len}
use Rattle.std.proofs.lemmas.Option.{slice_get_within, slice_get-get_or}
use Rattle.agm_net.specs.Formula.{Formula, f_zero, f_one, f_wire, f_not, f_and, f_or, f_xor, f_mux, value, stands, xor}
use Rattle.agm_net.specs.Plain.{Line, Stored, PlainNet, is_input, ports_but, data_ports, input_bits, bits_of_port, clock_bits}
use Rattle.agm_net.specs.Role.{share_name, state_name}
use Rattle.agm_net.specs.Trace.{Row, row_at, bit_at, Holds, Steps, IsTrace}
use Rattle.agm_net.specs.Loop.{reads, IsChain, last_of, IsLoop}
use Rattle.agm_net.specs.Renumbered.{renumbered, renumbered_line, renumbered_register, renumbered_port, Renumbered}
use Rattle.agm_net.specs.declared.mark.Mark.{Mark}
use Rattle.agm_net.specs.declared.port.Port.{Port}
use Rattle.share_wiring.specs.declared.report.Report.{Report}
use Rattle.share_wiring.specs.Recombine.{xor_rows, recombined_rows, port_value, is_shared, masked_value}
use Rattle.share_wiring.specs.Shape.{header_of}
use Rattle.share_wiring.specs.Schedule.{Stream, reading_cycle, input_values, Drives}
use Rattle.share_wiring.specs.Same.{Same}

-- past the end of a list there is the default
past : {X : Type 0} (xs : List X) (k : ℕ) (d : X) → length xs ≤ k → slice_index_or xs k d ≡ d
past [] k d le = refl
past (x ∷ xs) zero d le = absurd (omega arith)
past (x ∷ xs) (suc k) d le = past xs k d (omega arith)

-- the row of the net where the other net has this row
abbrev row_back : (ℕ → ℕ) → ℕ → Row → Row
row_back there n row = map (λ w. slice_index_or row (there w) false) (range_with_len 0 n)

-- a wire's bit is the bit of its number in the other net
bit_back : (there : ℕ → ℕ) (n : ℕ) (row : Row) (w : ℕ) → (n ≤ w → length row ≤ there w) → slice_index_or (row_back there n row) w false ≡ slice_index_or row (there w) false
bit_back there n row w far =
    elim (cases_lt w n) [
      | inl lt ↦ get_or-map-range_with_len (λ v. slice_index_or row (there v) false) 0 n w w false lt (omega arith)
      | inr le ↦ let long = length-map-range_with_len (λ v. slice_index_or row (there v) false) 0 n in
          past (row_back there n row) w false (omega arith) ∙ sym (past row (there w) false (far le))
    ]

-- bits of two rows, where `c` has each wire's bit and `b` that of its number in the other net
module _ (there : ℕ → ℕ) (b c : ℕ → Bool) (same : (w : ℕ) → c w ≡ b (there w)) where
  value_there : (f : Formula) → value b (renumbered there f) ≡ value c f
  value_there f_zero = refl
  value_there f_one = refl
  value_there (f_wire w) = sym (same w)
  value_there (f_not x) = ap not (value_there x)
  value_there (f_and x y) = ap₂ (λ p q. p && q) (value_there x) (value_there y)
  value_there (f_or x y) = ap₂ (λ p q. p || q) (value_there x) (value_there y)
  value_there (f_xor x y) = ap₂ xor (value_there x) (value_there y)
  value_there (f_mux s x y) = let p = value_there s in let q = value_there x in let r = value_there y in cc

  holds_back : (lines : List Line) → Holds b (map (renumbered_line there) lines) → Holds c lines
  holds_back [] h = tt
  holds_back (l ∷ ls) h = (same l.0 ∙ (h.0 ∙ value_there l.1), holds_back ls h.1)

  bits_back : (ws : List ℕ) → map c ws ≡ map b (map there ws)
  bits_back [] = refl
  bits_back (w ∷ ws) = ap₂ (λ x xs. x ∷ xs) (same w) (bits_back ws)

  low_back : (ws : List ℕ) → AllByRecursion (λ w. b w ≡ false) (map there ws) → AllByRecursion (λ w. c w ≡ false) ws
  low_back [] h = tt
  low_back (w ∷ ws) h = (same w ∙ h.0, low_back ws h.1)

  power_back : (rs : List Stored) → map (λ r. b r.q) (map (renumbered_register there) rs) ≡ map (λ r. c r.q) rs
  power_back [] = refl
  power_back (r ∷ rs) = ap₂ (λ x xs. x ∷ xs) (sym (same r.q)) (power_back rs)

  -- the values of the ports of a name
  ports_back : (name : List ℕ) (ps : List Port)
      → flat_map (λ p. map b p.bits) (filter (λ p. bytes_eq p.name name) (map (renumbered_port there) ps)) ≡ flat_map (λ p. map c p.bits) (filter (λ p. bytes_eq p.name name) ps)
  ports_back name [] = refl
  ports_back name (p ∷ ps) =
      let rest = ports_back name ps in
      elim (bytes_eq p.name name) as (λ t. flat_map (λ q. map b q.bits) (cond t (renumbered_port there p ∷ filter (λ q. bytes_eq q.name name) (map (renumbered_port there) ps)) (filter (λ q. bytes_eq q.name name) (map (renumbered_port there) ps)))
      ≡ flat_map (λ q. map c q.bits) (cond t (p ∷ filter (λ q. bytes_eq q.name name) ps) (filter (λ q. bytes_eq q.name name) ps))) [
        | true ↦ ap₂ (λ xs ys. xs ++ ys) (sym (bits_back p.bits)) rest
        | false ↦ rest
      ]

-- the registers step as they do in the other net
steps_back : (there : ℕ → ℕ) (b c b' c' : ℕ → Bool) → ((w : ℕ) → c w ≡ b (there w)) → ((w : ℕ) → c' w ≡ b' (there w)) → (rs : List Stored) → Steps b b' (map (renumbered_register there) rs) → Steps c c' rs
steps_back there b c b' c' same same' [] h = tt
steps_back there b c b' c' same same' (r ∷ rs) h = (same' r.q ∙ (h.0 ∙ value_there there b c same r.next), steps_back there b c b' c' same same' rs h.1)

-- the bits of ports, of input ports, and of ports but the clock
bits_there : (there : ℕ → ℕ) (ps : List Port) → flat_map (λ p. p.bits) (map (renumbered_port there) ps) ≡ map there (flat_map (λ p. p.bits) ps)
bits_there there [] = refl
bits_there there (p ∷ ps) = ap (λ ws. map there p.bits ++ ws) (bits_there there ps) ∙ sym (map-append there p.bits (flat_map (λ q. q.bits) ps))

inputs_there : (there : ℕ → ℕ) (ps : List Port) → filter is_input (map (renumbered_port there) ps) ≡ map (renumbered_port there) (filter is_input ps)
inputs_there there [] = refl
inputs_there there (p ∷ ps) =
    let rest = inputs_there there ps in
    elim (is_input p) as (λ t. cond t (renumbered_port there p ∷ filter is_input (map (renumbered_port there) ps)) (filter is_input (map (renumbered_port there) ps)) ≡ map (renumbered_port there) (cond t (p ∷ filter is_input ps) (filter is_input ps)))
    [ true ↦ ap (λ qs. renumbered_port there p ∷ qs) rest | false ↦ rest ]

but_there : (there : ℕ → ℕ) (clock : Option ℕ) (ps : List Port) → ports_but clock (map (renumbered_port there) ps) ≡ map (renumbered_port there) (ports_but clock ps)
but_there there None ps = refl
but_there there (Some k) ps =
    ap₂ (λ xs ys. xs ++ ys) (take-map (renumbered_port there) k ps) (drop-map (renumbered_port there) (k + 1) ps) ∙ sym (map-append (renumbered_port there) (take k ps) (drop (k + 1) ps))

clock_there : (there : ℕ → ℕ) (clock : Option ℕ) (ps : List Port) → bits_of_port (map (renumbered_port there) ps) clock ≡ map there (bits_of_port ps clock)
clock_there there None ps = refl
clock_there there (Some k) ps =
    ap (λ qs. flat_map (λ p. p.bits) (take 1 qs)) (drop-map (renumbered_port there) k ps)
    ∙ (ap (λ qs. flat_map (λ p. p.bits) qs) (take-map (renumbered_port there) 1 (drop k ps)) ∙ bits_there there (take 1 (drop k ps)))

headers_there : (there : ℕ → ℕ) (ps : List Port) → map header_of (map (renumbered_port there) ps) ≡ map header_of ps
headers_there there [] = refl
headers_there there (p ∷ ps) = ap (λ hs. header_of p ∷ hs) (headers_there there ps)

-- rows that are the same for each share recombine to the same
recombined_same : (d : ℕ) (f g : ℕ → List Bool) → ((i : ℕ) → f i ≡ g i) → recombined_rows d f ≡ recombined_rows d g
recombined_same zero f g h = h 0
recombined_same (suc d) f g h = ap₂ xor_rows (recombined_same d f g h) (h (suc d))

flat_same : (f g : Port → List Bool) (ps : List Port) → ((p : Port) → f p ≡ g p) → flat_map f ps ≡ flat_map g ps
flat_same f g [] h = refl
flat_same f g (p ∷ ps) h = ap₂ (λ xs ys. xs ++ ys) (h p) (flat_same f g ps h)

-- one of two facts where one of two others is
either : (a b c d : Bool) → (a ≡ true → c ≡ true) → (b ≡ true → d ≡ true) → (a || b) ≡ true → (c || d) ≡ true
either a b c d f g h = elim (or_cases a b h) [ inl here ↦ or_left c d (f here) | inr there ↦ or_right c d (g there) ]

-- the other net's wires where those of the net are renumbered
module _ (net other : PlainNet) (r : Renumbered net other) where
  far : (w : ℕ) → length net.wires ≤ w → length other.wires ≤ r.there w
  far w le =
      elim (cases_lt (r.there w) (length other.wires)) [
        | inl lt ↦ let name = slice_get-get_or other.wires (r.there w) [] lt in
            let inside = slice_get_within net.wires w (get_or other.wires (r.there w) []) (sym (r.same_names w) ∙ name) in omega arith
        | inr more ↦ more
      ]

  inputs_are : input_bits other ≡ map r.there (input_bits net)
  inputs_are =
      ap₂ (λ clock ps. flat_map (λ p. p.bits) (filter is_input (ports_but clock ps))) r.same_clock r.same_ports
      ∙ (ap (λ ps. flat_map (λ p. p.bits) (filter is_input ps)) (but_there r.there net.clock net.ports)
      ∙ (ap (λ ps. flat_map (λ p. p.bits) ps) (inputs_there r.there (data_ports net)) ∙ bits_there r.there (filter is_input (data_ports net))))

  clocks_are : clock_bits other ≡ map r.there (clock_bits net)
  clocks_are = ap₂ bits_of_port r.same_ports r.same_clock ∙ clock_there r.there net.clock net.ports

  -- a table of the other net, as one of the net
  abbrev table_back : List Row → List Row
  table_back table = map (row_back r.there (length net.wires)) table

  module _ (table : List Row) (wide : (t : ℕ) → t < length table → length (row_at table t) ≡ length other.wires) where
    rows : (t : ℕ) → t < length table → row_at (table_back table) t ≡ row_back r.there (length net.wires) (row_at table t)
    rows t lt = get_or-map (row_back r.there (length net.wires)) table t [] [] lt

    same_bits : (t w : ℕ) → bit_at (table_back table) t w ≡ bit_at table t (r.there w)
    same_bits t w =
        elim (cases_lt t (length table)) [
          | inl lt ↦ ap (λ row. slice_index_or row w false) (rows t lt)
              ∙ bit_back r.there (length net.wires) (row_at table t) w (λ le. let more = far w le in let long = wide t lt in omega arith)
          | inr le ↦ let long = length-map table (row_back r.there (length net.wires)) in
              ap (λ row. slice_index_or row w false) (past (table_back table) t [] (omega arith)) ∙ sym (ap (λ row. slice_index_or row (r.there w) false) (past table t [] le))
        ]

    value_back : (name : List ℕ) (t : ℕ) → port_value net name (bit_at (table_back table) t) ≡ port_value other name (bit_at table t)
    value_back name t =
        sym (ap (λ ps. flat_map (λ p. map (bit_at table t) p.bits) (filter (λ p. bytes_eq p.name name) ps)) r.same_ports
        ∙ ports_back r.there (bit_at table t) (bit_at (table_back table) t) (same_bits t) name net.ports)

    masked_back : (report : Report) (name : List ℕ) (t : ℕ) → masked_value net report name (bit_at (table_back table) t) ≡ masked_value other report name (bit_at table t)
    masked_back report name t =
        ap₂ (λ xs ys. cond (is_shared report name) xs ys)
        (recombined_same report.order _ _ (λ i. value_back (share_name i name) t)) (value_back name t)

    input_back : (original : PlainNet) (report : Report) (t : ℕ) → input_values original report net (bit_at (table_back table) t) ≡ input_values original report other (bit_at table t)
    input_back original report t = flat_same _ _ (filter is_input (data_ports original)) (λ p. masked_back report p.name t)

  -- a trace of the other net is one of the net
  trace_back : (power : Row) (tape table : List Row) → IsTrace other power tape table → IsTrace net power tape (table_back table)
  trace_back power tape table trace =
      let n = length net.wires in
      let long : length (table_back table) ≡ length table = length-map table (row_back r.there n) in
      let same = same_bits table trace.as_wide in
      record {
        as_long = long ∙ trace.as_long;
        as_wide = (λ t lt. ap length (rows table trace.as_wide t (omega arith)) ∙ length-map-range_with_len (λ w. slice_index_or (row_at table t) (r.there w) false) 0 n);
        equations_hold = (λ t lt. holds_back r.there (bit_at table t) (bit_at (table_back table) t) (same t) net.lines
            (subst (λ ls. Holds (bit_at table t) ls) r.same_lines (trace.equations_hold t (omega arith))));
        inputs_given = (λ t lt. bits_back r.there (bit_at table t) (bit_at (table_back table) t) (same t) (input_bits net)
            ∙ (ap (λ ws. map (bit_at table t) ws) (sym inputs_are) ∙ trace.inputs_given t (omega arith)));
        clock_is_low = (λ t lt. low_back r.there (bit_at table t) (bit_at (table_back table) t) (same t) (clock_bits net)
            (subst (λ ws. AllByRecursion (λ w. bit_at table t w ≡ false) ws) clocks_are (trace.clock_is_low t (omega arith))));
        power_given = (λ lt. sym (power_back r.there (bit_at table 0) (bit_at (table_back table) 0) (same 0) net.registers)
            ∙ (ap (λ rs. map (λ (s : Stored). bit_at table 0 s.q) rs) (sym r.same_registers) ∙ trace.power_given (omega arith)));
        registers_step = (λ t lt. steps_back r.there (bit_at table t) (bit_at (table_back table) t) (bit_at table (t + 1)) (bit_at (table_back table) (t + 1)) (same t) (same (t + 1)) net.registers
            (subst (λ rs. Steps (bit_at table t) (bit_at table (t + 1)) rs) r.same_registers (trace.registers_step t (omega arith))));
      }

  -- a stimulus that drives the other net drives the net
  drives_back : (original : PlainNet) (secrets : List Bool) (report : Report) (streams : List Stream) (steps : ℕ) (table : List Row)
      → ((t : ℕ) → t < length table → length (row_at table t) ≡ length other.wires)
      → Drives original secrets report other streams steps table → Drives original secrets report net streams steps (table_back table)
  drives_back original secrets report streams steps table wide drives =
      let long : length (table_back table) ≡ length table = length-map table (row_back r.there (length net.wires)) in
      record {
        as_many = drives.as_many;
        as_long = drives.as_long;
        load = (λ t lt. value_back table wide (codes "agm_load") t ∙ drives.load t (omega arith));
        public_state = (λ s lt. ap reverse (value_back table wide (codes "agm_q_p") s) ∙ drives.public_state s lt);
        secret_state = (λ s lt. ap reverse (recombined_same report.order _ _ (λ i. value_back table wide (state_name i) s)) ∙ drives.secret_state s lt);
        inputs = (λ s k t lts ltk at. input_back table wide original report t ∙ drives.inputs s k t lts ltk at);
        is_read = (λ s k lts ltk. let read = drives.is_read s k lts ltk in omega arith);
      }

  -- a wire that stands in a renumbered formula is one that stands in the formula
  stands_back : (v : ℕ) (f : Formula) → stands v (renumbered r.there f) ≡ true → stands (r.back v) f ≡ true
  stands_back v f_zero h = h
  stands_back v f_one h = h
  stands_back v (f_wire w) h = eq-eqb w (r.back v) (sym (r.there_and_back w) ∙ ap r.back (eqb-true (r.there w) v h))
  stands_back v (f_not x) h = stands_back v x h
  stands_back v (f_and x y) h = either _ _ _ _ (λ e. stands_back v x e) (λ e. stands_back v y e) h
  stands_back v (f_or x y) h = either _ _ _ _ (λ e. stands_back v x e) (λ e. stands_back v y e) h
  stands_back v (f_xor x y) h = either _ _ _ _ (λ e. stands_back v x e) (λ e. stands_back v y e) h
  stands_back v (f_mux s x y) h = either _ _ _ _ (λ e. stands_back v s e) (λ e. either _ _ _ _ (λ d. stands_back v x d) (λ d. stands_back v y d) e) h

  lines_back : (w v : ℕ) (lines : List Line) → list_any (λ l. (l.0 == w) && stands v l.1) (map (renumbered_line r.there) lines) ≡ true
      → list_any (λ l. (l.0 == r.back w) && stands (r.back v) l.1) lines ≡ true
  lines_back w v [] h = absurd (both_ways false refl h)
  lines_back w v (l ∷ ls) h =
      elim (or_cases ((r.there l.0 == w) && stands v (renumbered r.there l.1)) _ h) [
        | inl here ↦ let p = and_parts (r.there l.0 == w) (stands v (renumbered r.there l.1)) here in
            or_left _ _ (and_from _ _ (eq-eqb l.0 (r.back w) (sym (r.there_and_back l.0) ∙ ap r.back (eqb-true (r.there l.0) w p.0))) (stands_back v l.1 p.1))
        | inr later ↦ or_right _ _ (lines_back w v ls later)
      ]

  reads_back : (w v : ℕ) → IsTrue (reads other w v) → IsTrue (reads net (r.back w) (r.back v))
  reads_back w v h = lines_back w v net.lines (subst (λ ls. list_any (λ l. (l.0 == w) && stands v l.1) ls ≡ true) r.same_lines h)

  chain_back : (w : ℕ) (ws : List ℕ) → IsChain (reads other) w ws → IsChain (reads net) (r.back w) (map r.back ws)
  chain_back w [] h = tt
  chain_back w (v ∷ vs) h = (reads_back w v h.0, chain_back v vs h.1)

  last_back : (w : ℕ) (ws : List ℕ) → last_of (r.back w) (map r.back ws) ≡ r.back (last_of w ws)
  last_back w [] = refl
  last_back w (v ∷ vs) = last_back v vs

  -- a loop of the other net is one of the net
  loop_back : (ws : List ℕ) → IsLoop other ws → IsLoop net (map r.back ws)
  loop_back [] loop = loop
  loop_back (w ∷ ws) loop = (
    chain_back w ws loop.0,
    subst (λ v. IsTrue (reads net v (r.back w))) (sym (last_back w ws)) (reads_back (last_of w ws) w loop.1),
  )

  -- the other net computes the original where the net does
  pub renumbered_is_same : (original : PlainNet) (marks : List Mark) (report : Report) → Same original marks report net → Same original marks report other
  renumbered_is_same original marks report same = record {
    shape = record {
      headers = ap (λ ps. map header_of ps) r.same_ports ∙ (headers_there r.there net.ports ∙ same.shape.headers);
      clock = r.same_clock ∙ same.shape.clock;
    };
    no_loop = (λ ws loop. same.no_loop (map r.back ws) (loop_back ws loop));
    outputs = (λ power tape table secrets streams steps trace tells drives s k first lts ltk runs n p at out.
        sym (masked_back table trace.as_wide report p.name (reading_cycle report.balance report.period report.latency s k))
        ∙ same.outputs power tape (table_back table) secrets streams steps (trace_back power tape table trace) tells
        (drives_back original secrets report streams steps table trace.as_wide drives) s k first lts ltk runs n p at out);
  }
