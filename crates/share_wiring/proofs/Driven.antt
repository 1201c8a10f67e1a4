-- Every stimulus drives a net with the ports of a masked net.
use Rattle.std.proofs.Common.{◌≡◌, ◌≢◌, ◌<◌, ◌≤◌, ◌+◌, ◌-◌, ◌*◌, ◌/◌, ◌%◌, ◌==◌, ◌++◌, ℕ, zero, suc, Bool, true, false, cond, List, [], ◌∷◌, Option, None, Some, map, filter, take, drop, reverse, length, flat_map, slice_get, IsTrue, nat_lt, refl, sym, ap, ap₂, subst, inl, inr, ◌∙◌, arith, codes, bytes_eq, zero-add, mul-le-mul_left, mul-suc, mul_comm, eq-eqb}
use Rattle.std.specs.Prelude.{nat_eq}
use Rattle.std.specs.List.{AllByRecursion, list_any, range_with_len, starts_with}
use Rattle.std.proofs.lemmas.Bool.{cases_Bool, both_ways, or_left, or_right, cond-true, cond-false, false_from_ne_true}
use Rattle.std.proofs.lemmas.List.{length-map, length-reverse, map-append, reverse-reverse}
use Rattle.std.proofs.lemmas.List.FromFn.{length-map-range_with_len, get_or-map-range_with_len}
use Rattle.std.proofs.lemmas.List.Folds.{list_any-append}
use Rattle.std.proofs.lemmas.Nat.{div-mul-add, mod-mul-add}
use Rattle.std.proofs.lemmas.Slice.Eq.{bytes_eq-Decides}
use Rattle.agm_net.specs.Loop.{HasNoLoop}
use Rattle.agm_net.specs.Plain.{PlainNet, is_in, is_input, input_bits, data_ports, ports_but}
use Rattle.agm_net.specs.Run.{run_of}
use Rattle.agm_net.specs.Role.{share_name, state_name}
use Rattle.agm_net.specs.Trace.{Row, row_at, bit_at, IsTrace}
use Rattle.agm_net.specs.WellFormed.{WellFormed}
use Rattle.agm_net.specs.declared.mark.Mark.{Mark}
use Rattle.agm_net.specs.declared.port.Port.{Port}
use Rattle.agm_net.specs.declared.port.Way.{Way}
use Rattle.agm_net.specs.declared.port.Way.TheVariants.{Input, Output}
use Rattle.agm_net.proofs.Driving.{input_once}
use Rattle.agm_net.proofs.Traces.{run_is_trace}
use Rattle.agm_net.proofs.Lists.{all_from, all_joined, all_of_one, all_places}
use Rattle.share_wiring.specs.Recombine.{recombined_rows, port_value, is_shared, masked_value}
use Rattle.share_wiring.specs.Shape.{Shape, Header, header_of, indices, input_of_width, one_input, masked_headers, headers_of}
use Rattle.share_wiring.specs.Same.{TellsSecrets}
use Rattle.share_wiring.specs.Schedule.{Stream, stream_at, load_cycles, chosen, IsInputCycle, reading_cycle, input_values, Drives}
use Rattle.share_wiring.specs.Driven.{IsStimulus}
use Rattle.share_wiring.specs.ReportOf.{ReportOf}
use Rattle.share_wiring.specs.declared.report.Report.{Report}
use Rattle.share_wiring.specs.declared.report.Mode.{Mode}
use Rattle.share_wiring.specs.declared.report.Balance.TheVariants.{Pipe}
use Rattle.share_wiring.proofs.DrivenRows.{resize, resize_same, first_alone, first_count, first_recombines, chosen_secret, chosen_public, all_flat, always, one_of_flat, one_number, flat_map_same, Entry, header_in, wide_entries, wide_headers, wide_count, share_entry, masked_entries, masked_entry_headers, all_bits, wanted, wanted_count, cut_first}
use Rattle.share_wiring.proofs.Given.{given, given_row}
use Rattle.share_wiring.proofs.Lists.{all_in_range, all_below, all_front, all_back, agree_at, map_flat_map, flat_map_nothing}
use Rattle.share_wiring.proofs.Ports.{bits_named}
use Rattle.share_wiring.proofs.ShapePorts.{IsOneOf, data_port, HasPort, width, port_bits, bit_count}

pub within_mapped : {X Y : Type 0} (f : X → Y) (xs : List X) (n : ℕ) (x : X) → slice_get xs n ≡ Some x → n < length (map f xs)
within_mapped f [] n x at = absurd (cc)
within_mapped f (y ∷ ys) zero x at = omega arith
within_mapped f (y ∷ ys) (suc n) x at = let rest = within_mapped f ys n x at in omega (arith, rest)

-- the bits of an input port are input bits
pub bit_within : (q : Port) (ports : List Port) (w : ℕ) → IsOneOf q ports → is_input q ≡ true → IsTrue (list_any (λ b. b == w) q.bits) → IsTrue (list_any (λ b. b == w) (all_bits (filter is_input ports)))
bit_within q [] w one input h = absurd one
bit_within q (p ∷ ps) w (inl is) input h =
    let own : is_input p ≡ true = ap is_input is ∙ input in
    rw own
    (list_any-append (λ b. b == w) p.bits (all_bits (filter is_input ps))
    ∙ or_left (list_any (λ b. b == w) p.bits) (list_any (λ b. b == w) (all_bits (filter is_input ps))) (ap (λ (r : Port). list_any (λ b. b == w) r.bits) is ∙ h))
bit_within q (p ∷ ps) w (inr there) input h =
    let rest = bit_within q ps w there input h in
    elim (cases_Bool (is_input p)) [
      | inl own ↦ rw own (list_any-append (λ b. b == w) p.bits (all_bits (filter is_input ps)) ∙ or_right (list_any (λ b. b == w) p.bits) (list_any (λ b. b == w) (all_bits (filter is_input ps))) rest)
      | inr other ↦ rw other rest
    ]

pub same_on : (f g : ℕ → Bool) (ws : List ℕ) → ((w : ℕ) → IsTrue (list_any (λ b. b == w) ws) → f w ≡ g w) → map f ws ≡ map g ws
same_on f g [] h = refl
same_on f g (w ∷ ws) h =
    ap₂ (λ x xs. x ∷ xs) (h w (or_left (w == w) (list_any (λ b. b == w) ws) (refl_eq w))) (same_on f g ws (λ v found. h v (or_right (w == v) (list_any (λ b. b == v) ws) found)))
  where
    refl_eq : (k : ℕ) → IsTrue (k == k)
    refl_eq k = eq-eqb k k refl

-- two functions that agree on the items that pass a test
pub filtered : {Y : Type 0} (f g : Port → List Y) (test : Port → Bool) (xs : List Port) → ((n : ℕ) (x : Port) → slice_get xs n ≡ Some x → IsTrue (test x) → f x ≡ g x) → flat_map f (filter test xs) ≡ flat_map g (filter test xs)
filtered f g test [] h = refl
filtered f g test (x ∷ xs) h =
    let tail = filtered f g test xs (λ n. h (suc n)) in
    elim (cases_Bool (test x)) [ inl kept ↦ rw kept (ap₂ (λ ys zs. ys ++ zs) (h 0 x refl kept) tail) | inr left ↦ rw left tail ]

-- no port has a name that differs from all of a masked net's
none_named : (bit : ℕ → Bool) (name : List ℕ) (ports : List Port) (hs : List Header) → map header_of ports ≡ hs → AllByRecursion (λ h. bytes_eq h.name name ≡ false) hs → bits_named bit name ports ≡ []
none_named bit name [] hs e h = refl
none_named bit name (p ∷ ps) [] e h = absurd (cc)
none_named bit name (p ∷ ps) (x ∷ xs) e h =
    let head : header_of p ≡ x = cc in
    let tail : map header_of ps ≡ xs = cc in
    let apart : bytes_eq p.name name ≡ false = ap (λ (y : Header). bytes_eq y.name name) head ∙ h.0 in
    rw apart (none_named bit name ps xs tail h.1)

pub way_is : (way : Way) → is_in way ≡ true → way ≡ Input
way_is Input e = refl
way_is Output e = absurd (let no : false ≡ true = e in cc)

-- the cycles of a step are those of the table
step_fits : (period k steps s latency : ℕ) → s < period → k < steps → 1 + s + period * k + latency < 1 + (period * steps + period) + latency
step_fits period k steps s latency turn lt =
    let le : suc k ≤ steps = omega (arith, lt) in
    let more : period * suc k ≤ period * steps = mul-le-mul_left period le in
    let spread : period * suc k ≡ period * k + period = mul-suc period k in
    omega (arith, more, spread, turn)

-- a step's cycle tells its stream and its number
turn_of : (period s k t : ℕ) → s < period → t ≡ 1 + s + period * k → ((t - 1) % period ≡ s) × ((t - 1) / period ≡ k)
turn_of period s k t lt at =
    let swapped : period * k ≡ k * period = mul_comm period k in
    let back : t - 1 ≡ k * period + s = omega (arith, at, swapped) in
    (ap (λ n. n % period) back ∙ mod-mul-add k period s lt, ap (λ n. n / period) back ∙ div-mul-add k period s lt)

-- ---- headers with other names

-- a name that begins with `agm_` is none that does not
free_other : (name word : List ℕ) → starts_with nat_eq name (codes "agm_") ≡ false → starts_with nat_eq word (codes "agm_") ≡ true → name ≢ word
free_other name word free begins e = both_ways (starts_with nat_eq name (codes "agm_")) free (ap (λ n. starts_with nat_eq n (codes "agm_")) e ∙ begins)

wide_apart : (name other : List ℕ) (n : ℕ) → bytes_eq other name ≡ false → AllByRecursion (λ h. bytes_eq h.name name ≡ false) (input_of_width other n)
wide_apart name other zero apart = tt
wide_apart name other (suc n) apart = (apart, tt)

masked_others : (report : Report) (name : List ℕ) → ((i : ℕ) (x : List ℕ) → bytes_eq (share_name i x) name ≡ false) → starts_with nat_eq name (codes "agm_") ≡ true
    → (ports : List Port) → AllByRecursion (λ p. starts_with nat_eq p.name (codes "agm_") ≡ false) ports → AllByRecursion (λ h. bytes_eq h.name name ≡ false) (flat_map (masked_headers report) ports)
masked_others report name shares begins [] free = tt
masked_others report name shares begins (p ∷ ps) free =
    all_joined (λ h. bytes_eq h.name name ≡ false) (masked_headers report p) (flat_map (masked_headers report) ps)
    (by (is_shared report p.name) (false_from_ne_true (bytes_eq p.name name) (λ same. free_other p.name name free.0 begins ((bytes_eq-Decides p.name name).0 same))))
    (masked_others report name shares begins ps free.1)
  where
    by : (b : Bool) → bytes_eq p.name name ≡ false
        → AllByRecursion (λ h. bytes_eq h.name name ≡ false) (cond b (map (λ i. record { name = share_name i p.name; way = p.way; range = p.range }) (indices report.order)) (header_of p ∷ []))
    by true other = all_in_range (λ h. bytes_eq h.name name ≡ false) (λ i. record { name = share_name i p.name; way = p.way; range = p.range }) 0 (report.order + 1) (λ i lt. shares i p.name)
    by false other = (other, tt)

no_row : (xs : Row) → length xs ≡ 0 → xs ≡ []
no_row [] e = refl
no_row (x ∷ xs) e = absurd (omega arith)

-- ---- ports with their values

-- the wires of a port have in this way what its entry wants
abbrev HasValue : PlainNet → (ℕ → Bool) → Entry → Type 0
HasValue net f e = (found : HasPort net e.0) × (map f found.port.bits ≡ resize (length found.port.bits) e.1)

each_entry : (net : PlainNet) (f : ℕ → Bool) (ports : List Port) (es : List Entry) → ((k : ℕ) (p : Port) → slice_get ports k ≡ Some p → (n : ℕ) × (slice_get net.ports n ≡ Some p))
    → map header_of ports ≡ map header_in es → map f (all_bits ports) ≡ wanted ports es → AllByRecursion (HasValue net f) es
each_entry net f ports [] within heads e = tt
each_entry net f [] (x ∷ xs) within heads e = absurd (cc)
each_entry net f (q ∷ qs) (x ∷ xs) within heads e =
    let head : header_of q ≡ x.0 = cc in
    let tail : map header_of qs ≡ map header_in xs = cc in
    let both = cut_first f q qs x xs e in
    let place = within 0 q refl in
    let found : HasPort net x.0 = record { number = place.0; port = q; at = place.1; is = head } in
    ((found, both.0), each_entry net f qs xs (λ k p at. within (suc k) p at) tail both.1)

-- a port that is not the clock's has a place among all
place_but : (p : Port) (ports : List Port) (c n : ℕ) → slice_get (take c ports ++ drop (c + 1) ports) n ≡ Some p → (m : ℕ) × (slice_get ports m ≡ Some p)
place_but p [] zero n at = (n, at)
place_but p [] (suc c) n at =
    let next : suc c + 1 ≡ suc (c + 1) = omega arith in
    (n, subst (λ k. slice_get (take (suc c) [] ++ drop k []) n ≡ Some p) next at)
place_but p (q ∷ qs) zero n at = (suc n, at)
place_but p (q ∷ qs) (suc c) zero at = (0, at)
place_but p (q ∷ qs) (suc c) (suc n) at =
    let next : suc c + 1 ≡ suc (c + 1) = omega arith in
    let rest = place_but p qs c n (subst (λ k. slice_get (take c qs ++ drop k (q ∷ qs)) n ≡ Some p) next at) in
    (suc rest.0, rest.1)

place_of : (net : PlainNet) (n : ℕ) (p : Port) → slice_get (data_ports net) n ≡ Some p → (m : ℕ) × (slice_get net.ports m ≡ Some p)
place_of net n p at = of_clock net.clock at
  where
    of_clock : (clock : Option ℕ) → slice_get (ports_but clock net.ports) n ≡ Some p → (m : ℕ) × (slice_get net.ports m ≡ Some p)
    of_clock None found = (n, found)
    of_clock (Some c) found = place_but p net.ports c n found

module _ (original : PlainNet) (marks : List Mark) (secrets : List Bool) (order : ℕ) (mode : Mode) (gadgets latency : ℕ) (report : Report) (net : PlainNet)
    (streams : List Stream) (steps : ℕ) (power : Row)
    (first : WellFormed original) (free : AllByRecursion (λ p. starts_with nat_eq p.name (codes "agm_") ≡ false) original.ports)
    (well : WellFormed net) (no_loop : HasNoLoop net) (shape : Shape original report net)
    (reported : ReportOf original marks order mode Pipe gadgets latency report) (tells : TellsSecrets original marks secrets)
    (stimulus : IsStimulus original report streams steps) (powered : length power ≡ length net.registers) where
  -- the initial state and the inputs of cycle t
  abbrev initial : ℕ → Row
  initial t = (stream_at streams t).initial

  abbrev step_row : ℕ → Row
  step_row t = row_at (stream_at streams ((t - 1) % report.period)).steps ((t - 1) / report.period)

  abbrev step_bits : ℕ → ℕ → Bool
  step_bits t = given (input_bits original) (step_row t)

  -- what the ports are given in cycle t
  abbrev public_row : ℕ → Row
  public_row t = reverse (chosen false secrets (initial t))

  abbrev secret_row : ℕ → ℕ → Row
  secret_row t i = first_alone report.secret_registers i (reverse (chosen true secrets (initial t)))

  abbrev Randoms : List Entry
  Randoms = wide_entries (codes "agm_r") report.random []

  abbrev publics_in : ℕ → List Entry
  publics_in t = wide_entries (codes "agm_q_p") report.public_registers (public_row t)

  abbrev secret_in : ℕ → ℕ → List Entry
  secret_in t i = wide_entries (state_name i) report.secret_registers (secret_row t i)

  abbrev secrets_in : ℕ → List Entry
  secrets_in t = flat_map (secret_in t) (indices report.order)

  abbrev own_in : ℕ → List Entry
  own_in t = flat_map (masked_entries report (step_bits t)) (data_ports original)

  abbrev entries : ℕ → List Entry
  entries t = (one_input (codes "agm_clk"), []) ∷ ((one_input (codes "agm_load"), nat_lt t report.period ∷ []) ∷ (Randoms ++ (publics_in t ++ (secrets_in t ++ own_in t))))

  own_headers : (t : ℕ) → map header_in (own_in t) ≡ flat_map (masked_headers report) (data_ports original)
  own_headers t =
      map_flat_map header_in (masked_entries report (step_bits t)) (data_ports original)
      ∙ flat_map_same (λ p. map header_in (masked_entries report (step_bits t) p)) (masked_headers report) (data_ports original) (masked_entry_headers report (step_bits t))

  state_headers : (t : ℕ) → map header_in (secrets_in t) ≡ flat_map (λ i. input_of_width (state_name i) report.secret_registers) (indices report.order)
  state_headers t =
      map_flat_map header_in (secret_in t) (indices report.order)
      ∙ flat_map_same (λ i. map header_in (secret_in t i)) (λ i. input_of_width (state_name i) report.secret_registers) (indices report.order)
      (λ i. wide_headers (state_name i) report.secret_registers (secret_row t i))

  heads : (t : ℕ) → map header_in (entries t) ≡ headers_of original report
  heads t =
      ap (λ hs. one_input (codes "agm_clk") ∷ (one_input (codes "agm_load") ∷ hs))
      (map-append header_in Randoms (publics_in t ++ (secrets_in t ++ own_in t))
      ∙ ap₂ (λ xs ys. xs ++ ys) (wide_headers (codes "agm_r") report.random [])
      (map-append header_in (publics_in t) (secrets_in t ++ own_in t)
      ∙ ap₂ (λ xs ys. xs ++ ys) (wide_headers (codes "agm_q_p") report.public_registers (public_row t))
      (map-append header_in (secrets_in t) (own_in t) ∙ ap₂ (λ xs ys. xs ++ ys) (state_headers t) (own_headers t))))

  abbrev cycle : ℕ → ℕ → Bool
  cycle t = given (all_bits net.ports) (wanted net.ports (entries t))

  abbrev cycles : ℕ
  cycles = 1 + (report.period * steps + report.period) + report.latency

  abbrev tape : List Row
  tape = map (λ t. map (cycle t) (input_bits net)) (range_with_len 0 cycles)

  abbrev table : List Row
  table = run_of net power tape

  tape_fits : AllByRecursion (λ row. length row ≡ length (input_bits net)) tape
  tape_fits = all_in_range (λ row. length row ≡ length (input_bits net)) (λ t. map (cycle t) (input_bits net)) 0 cycles (λ t lt. length-map (input_bits net) (cycle t))

  trace : IsTrace net power tape table
  trace = run_is_trace net well no_loop power tape (record { powered = powered; as_wide = tape_fits })

  as_many : length table ≡ cycles
  as_many = trace.as_long ∙ length-map-range_with_len (λ t. map (cycle t) (input_bits net)) 0 cycles

  -- an input bit has in a cycle what was put
  input_is : (t w : ℕ) → t < length table → IsTrue (list_any (λ b. b == w) (input_bits net)) → bit_at table t w ≡ cycle t w
  input_is t w lt found =
      let row : row_at tape t ≡ map (cycle t) (input_bits net) = get_or-map-range_with_len (λ k. map (cycle k) (input_bits net)) 0 cycles t t [] (omega (arith, lt, as_many)) (zero-add t) in
      agree_at (bit_at table t) (cycle t) (input_bits net) (trace.inputs_given t lt ∙ row) w found

  -- the clock's port has its name
  clock_first : (q : Port) → slice_get net.ports 0 ≡ Some q → q.name ≡ codes "agm_clk"
  clock_first q at = ap (λ (h : Header). h.name) (of_first net.ports shape.headers at)
    where
      of_first : (ports : List Port) {rest : List Header} → map header_of ports ≡ one_input (codes "agm_clk") ∷ rest → slice_get ports 0 ≡ Some q → header_of q ≡ one_input (codes "agm_clk")
      of_first [] e is = absurd (cc)
      of_first (p ∷ ps) e is = let same : p ≡ q = cc in let head : header_of p ≡ one_input (codes "agm_clk") = cc in ap header_of (sym same) ∙ head

  -- an input port has in a cycle what its entry wants
  abbrev Told : ℕ → Entry → Type 0
  Told t e = e.0.way ≡ Input → e.0.name ≢ codes "agm_clk" → port_value net e.0.name (bit_at table t) ≡ resize (width e.0.range) e.1

  port_is : (t : ℕ) (h : Header) (row : Row) → t < length table → (found : HasPort net h) → map (cycle t) found.port.bits ≡ resize (length found.port.bits) row
      → h.way ≡ Input → h.name ≢ codes "agm_clk" → port_value net h.name (bit_at table t) ≡ resize (width h.range) row
  port_is t h row lt found put input other =
      let q = found.port in
      let name : q.name ≡ h.name = ap (λ (x : Header). x.name) found.is in
      let way : is_input q ≡ true = ap (λ (x : Header). is_input (record { name = x.name; way = x.way; range = x.range; bits = [] })) found.is ∙ ap (λ w. is_input (record { name = h.name; way = w; range = h.range; bits = [] })) input in
      let range = ap (λ (x : Header). x.range) found.is in
      let own = data_port net found.number q found.at (λ clock. other (sym name ∙ clock_first q (let same : Some 0 ≡ Some found.number = sym shape.clock ∙ clock in let zero_is : found.number ≡ 0 = cc in subst (λ k. slice_get net.ports k ≡ Some q) zero_is found.at))) in
      ap (λ x. port_value net x (bit_at table t)) (sym name)
      ∙ (port_bits net well found.number q found.at (bit_at table t)
      ∙ (same_on (bit_at table t) (cycle t) q.bits (λ w found_at. input_is t w lt (bit_within q (data_ports net) w own way found_at))
      ∙ (put ∙ ap (λ m. resize m row) (bit_count net well found.number q found.at ∙ ap width range))))

  told : (t : ℕ) → t < length table → AllByRecursion (Told t) (entries t)
  told t lt =
      all_from (HasValue net (cycle t)) (Told t) (λ e has. port_is t e.0 e.1 lt has.0 has.1) (entries t)
      (each_entry net (cycle t) net.ports (entries t) (λ k p at. (k, at)) (shape.headers ∙ sym (heads t))
      (given_row (all_bits net.ports) (wanted net.ports (entries t)) (wanted_count net.ports (entries t)) well.ports_right.one_port))

  abbrev Rest : ℕ → Type 0
  Rest t = AllByRecursion (Told t) (Randoms ++ (publics_in t ++ (secrets_in t ++ own_in t)))

  told_publics : (t : ℕ) → Rest t → AllByRecursion (Told t) (publics_in t)
  told_publics t rest = all_front (Told t) (publics_in t) (secrets_in t ++ own_in t) (all_back (Told t) Randoms (publics_in t ++ (secrets_in t ++ own_in t)) rest)

  told_behind : (t : ℕ) → Rest t → AllByRecursion (Told t) (secrets_in t ++ own_in t)
  told_behind t rest = all_back (Told t) (publics_in t) (secrets_in t ++ own_in t) (all_back (Told t) Randoms (publics_in t ++ (secrets_in t ++ own_in t)) rest)

  load_is : (t : ℕ) → t < length table → port_value net (codes "agm_load") (bit_at table t) ≡ nat_lt t report.period ∷ []
  load_is t lt = (told t lt).1.0 refl (λ e. (let r : ◌≡◌ {A = ℕ} 108 99 = cc in absurd (omega (arith, r))))

  -- ---- inputs

  data_free : AllByRecursion (λ p. starts_with nat_eq p.name (codes "agm_") ≡ false) (data_ports original)
  data_free =
      all_places (λ p. starts_with nat_eq p.name (codes "agm_") ≡ false) (data_ports original)
      (λ n p at. (let place = place_of original n p at in all_of_one (λ q. starts_with nat_eq q.name (codes "agm_") ≡ false) original.ports place.0 p free place.1))

  told_port : (t n : ℕ) (p : Port) → t < length table → slice_get (data_ports original) n ≡ Some p → AllByRecursion (Told t) (masked_entries report (step_bits t) p)
  told_port t n p lt at =
      all_of_one (λ q. AllByRecursion (Told t) (masked_entries report (step_bits t) q)) (data_ports original) n p
      (one_of_flat (Told t) (masked_entries report (step_bits t)) (data_ports original) (all_back (Told t) (secrets_in t) (own_in t) (told_behind t (told t lt).1.1))) at

  abbrev shares_of : ℕ → Port → List Entry
  shares_of t p = map (share_entry (step_bits t) p) (indices report.order)

  value_is : (t n : ℕ) (p : Port) → t < length table → slice_get (data_ports original) n ≡ Some p → is_input p ≡ true → masked_value net report p.name (bit_at table t) ≡ map (step_bits t) p.bits
  value_is t n p lt at input =
      let place = place_of original n p at in
      let row : ℕ → Row = λ i. port_value net (share_name i p.name) (bit_at table t) in
      let bits = map (step_bits t) p.bits in
      let alone : List Entry = (header_of p, bits) ∷ [] in
      let count : length bits ≡ length p.bits = length-map p.bits (step_bits t) in
      let wide : length p.bits ≡ width p.range = bit_count original first place.0 p place.1 in
      let fits : (xs : Row) → length xs ≡ length p.bits → resize (width p.range) xs ≡ xs = λ xs long. ap (λ m. resize m xs) (sym wide) ∙ resize_same (length p.bits) xs long in
      let here = told_port t n p lt at in
      elim (cases_Bool (is_shared report p.name)) [
        | inl shared ↦ (
            let each : AllByRecursion (Told t) (shares_of t p) = subst (AllByRecursion (Told t)) (cond-true (is_shared report p.name) (shares_of t p) alone shared) here in
            cond-true (is_shared report p.name) (recombined_rows report.order row) (port_value net p.name (bit_at table t)) shared
            ∙ first_recombines report.order (length p.bits) row bits count
            (λ i le. all_below (Told t) (share_entry (step_bits t) p) (report.order + 1) each i (omega (arith, le)) (way_is p.way input) (λ e. (let r : ◌≡◌ {A = ℕ} 115 99 = cc in absurd (omega (arith, r))))
            ∙ fits (first_alone (length p.bits) i bits) (first_count (length p.bits) i bits count)))
        | inr public ↦ (
            let each : AllByRecursion (Told t) alone = subst (AllByRecursion (Told t)) (cond-false (is_shared report p.name) (shares_of t p) alone public) here in
            let is_free = all_of_one (λ q. starts_with nat_eq q.name (codes "agm_") ≡ false) (data_ports original) n p data_free at in
            cond-false (is_shared report p.name) (recombined_rows report.order row) (port_value net p.name (bit_at table t)) public
            ∙ (each.0 (way_is p.way input) (free_other p.name (codes "agm_clk") is_free refl) ∙ fits bits count))
      ]

  inputs_are : (t : ℕ) → t < length table → length (step_row t) ≡ length (input_bits original) → input_values original report net (bit_at table t) ≡ step_row t
  inputs_are t lt count =
      filtered (λ p. masked_value net report p.name (bit_at table t)) (λ p. map (step_bits t) p.bits) is_input (data_ports original) (λ n p at input. value_is t n p lt at input)
      ∙ (sym (map_flat_map (step_bits t) (λ p. p.bits) (filter is_input (data_ports original)))
      ∙ given_row (input_bits original) (step_row t) count (input_once original first))

  -- ---- initial values

  -- no port has another name
  no_header : (name : List ℕ) → bytes_eq (codes "agm_clk") name ≡ false → bytes_eq (codes "agm_load") name ≡ false → bytes_eq (codes "agm_r") name ≡ false
      → AllByRecursion (λ h. bytes_eq h.name name ≡ false) (input_of_width (codes "agm_q_p") report.public_registers)
      → AllByRecursion (λ h. bytes_eq h.name name ≡ false) (flat_map (λ k. input_of_width (state_name k) report.secret_registers) (indices report.order))
      → ((i : ℕ) (x : List ℕ) → bytes_eq (share_name i x) name ≡ false) → starts_with nat_eq name (codes "agm_") ≡ true
      → AllByRecursion (λ h. bytes_eq h.name name ≡ false) (headers_of original report)
  no_header name clock load random public secret shares begins =
      let P : Header → Type 0 = λ h. bytes_eq h.name name ≡ false in
      let publics = input_of_width (codes "agm_q_p") report.public_registers in
      let states = flat_map (λ k. input_of_width (state_name k) report.secret_registers) (indices report.order) in
      let own = flat_map (masked_headers report) (data_ports original) in (
        clock,
        (
          load,
          all_joined P (input_of_width (codes "agm_r") report.random) (publics ++ (states ++ own)) (wide_apart name (codes "agm_r") report.random random)
              (all_joined P publics (states ++ own) public (all_joined P states own secret (masked_others report name shares begins (data_ports original) data_free))),
        ),
      )

  -- a port of n bits, or none
  wide_value : (t : ℕ) (name : List ℕ) (n : ℕ) (row : Row) → AllByRecursion (Told t) (wide_entries name n row) → (n ≡ 0 → AllByRecursion (λ h. bytes_eq h.name name ≡ false) (headers_of original report))
      → name ≢ codes "agm_clk" → length row ≡ n → port_value net name (bit_at table t) ≡ row
  wide_value t name zero row known absent other long = none_named (bit_at table t) name net.ports (headers_of original report) shape.headers (absent refl) ∙ sym (no_row row long)
  wide_value t name (suc n) row known absent other long = known.0 refl other ∙ (ap (λ m. resize m row) (wide_count n) ∙ resize_same (suc n) row long)

  counts : (s : ℕ) → s < length streams → length (initial s) ≡ length secrets
  counts s lt = stimulus.states s lt ∙ sym tells.one_each

  public_is : (s : ℕ) → s < length streams → s < length table → port_value net (codes "agm_q_p") (bit_at table s) ≡ public_row s
  public_is s lt less =
      wide_value s (codes "agm_q_p") report.public_registers (public_row s) (told_publics s (told s less).1.1)
      (λ none. no_header (codes "agm_q_p") refl refl refl (subst (λ n. AllByRecursion (λ h. bytes_eq h.name (codes "agm_q_p") ≡ false) (input_of_width (codes "agm_q_p") n)) (sym none) tt)
      (all_flat (λ h. bytes_eq h.name (codes "agm_q_p") ≡ false) (λ k. input_of_width (state_name k) report.secret_registers) (indices report.order)
      (always (λ k. AllByRecursion (λ h. bytes_eq h.name (codes "agm_q_p") ≡ false) (input_of_width (state_name k) report.secret_registers)) (λ k. wide_apart (codes "agm_q_p") (state_name k) report.secret_registers refl) (indices report.order)))
      (λ i x. refl) refl)
      (λ e. (let r : ◌≡◌ {A = ℕ} 113 99 = cc in absurd (omega (arith, r))))
      (length-reverse (chosen false secrets (initial s)) ∙ (chosen_public secrets (initial s) (counts s lt) ∙ sym (reported.registers_are secrets tells).1))

  secret_count : (s : ℕ) → s < length streams → length (reverse (chosen true secrets (initial s))) ≡ report.secret_registers
  secret_count s lt = length-reverse (chosen true secrets (initial s)) ∙ (chosen_secret secrets (initial s) (counts s lt) ∙ sym (reported.registers_are secrets tells).0)

  secret_is : (s i : ℕ) → s < length streams → s < length table → i ≤ report.order → port_value net (state_name i) (bit_at table s) ≡ secret_row s i
  secret_is s i lt less le =
      let here : AllByRecursion (Told s) (secret_in s i) =
      one_number (λ k. AllByRecursion (Told s) (secret_in s k)) i 0 (report.order + 1) (omega arith) (omega (arith, le))
      (one_of_flat (Told s) (secret_in s) (indices report.order) (all_front (Told s) (secrets_in s) (own_in s) (told_behind s (told s less).1.1))) in
      wide_value s (state_name i) report.secret_registers (secret_row s i) here
      (λ none. no_header (state_name i) refl refl refl (wide_apart (state_name i) (codes "agm_q_p") report.public_registers refl)
      (subst (AllByRecursion (λ h. bytes_eq h.name (state_name i) ≡ false)) (sym (flat_map_nothing (λ k. input_of_width (state_name k) report.secret_registers) (indices report.order) (λ k. ap (input_of_width (state_name k)) none))) tt)
      (λ j x. refl) refl)
      (λ e. (let r : ◌≡◌ {A = ℕ} 113 99 = cc in absurd (omega (arith, r))))
      (first_count report.secret_registers i (reverse (chosen true secrets (initial s))) (secret_count s lt))

  -- ---- all

  turn : (s : ℕ) → s < length streams → s < report.period
  turn s lt = let same = stimulus.as_many ∙ (reported.streams_are ∙ sym reported.period_is) in omega (arith, same, lt)

  early : (s : ℕ) → s < length streams → s < length table
  early s lt = let low = turn s lt in omega (arith, low, as_many)

  pub drives : Drives original secrets report net streams steps table
  drives = record {
    as_many = stimulus.as_many;
    as_long = stimulus.as_long;
    load = λ t lt. load_is t lt ∙ ap (λ b. nat_lt t (load_cycles b report.period) ∷ []) (sym reported.balance_is);
    public_state = λ s lt. ap reverse (public_is s lt (early s lt)) ∙ reverse-reverse (chosen false secrets (initial s));
    secret_state = λ s lt.
        let row = reverse (chosen true secrets (initial s)) in
        ap reverse (first_recombines report.order report.secret_registers (λ i. port_value net (state_name i) (bit_at table s)) row (secret_count s lt) (λ i le. secret_is s i lt (early s lt) le))
        ∙ reverse-reverse (chosen true secrets (initial s));
    inputs = λ s k t lt less is.
        let at : t ≡ 1 + s + report.period * k = subst (λ b. IsInputCycle b report.period s k t) reported.balance_is is in
        let found = turn_of report.period s k t (turn s lt) at in
        let row : step_row t ≡ row_at (stream_at streams s).steps k = ap₂ (λ a b. row_at (stream_at streams a).steps b) found.0 found.1 in
        let fits = step_fits report.period k steps s report.latency (turn s lt) less in
        inputs_are t (omega (arith, at, fits, as_many)) (ap (λ (xs : Row). length xs) row ∙ stimulus.as_wide s k lt less) ∙ row;
    is_read = λ s k lt less.
        let fits = step_fits report.period k steps s report.latency (turn s lt) less in
        subst (λ b. reading_cycle b report.period report.latency s k < length table) (sym reported.balance_is) (omega (arith, fits, as_many));
  }

  pub is_driven : (tape : List Row) × (table : List Row) × IsTrace net power tape table × Drives original secrets report net streams steps table
  is_driven = (tape, table, trace, drives)
