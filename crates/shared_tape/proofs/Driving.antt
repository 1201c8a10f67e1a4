-- The tape of a masked net drives it with its stimulus.
use Rattle.std.proofs.Common.{◌≡◌, ◌<◌, ◌≤◌, ◌+◌, ◌-◌, ◌*◌, ◌/◌, ◌%◌, ◌++◌, ℕ, zero, suc, Bool, true, false, not, List, [], ◌∷◌, All, Option, Some, None, map, take, drop, reverse, length, flat_map, slice_get, nat_lt, codes, bytes_eq, refl, sym, ap, ap₂, subst, ◌∙◌, arith, inl, inr, zero-add, mul-le-mul_left, mul-suc, mul_comm, count_by}
use Rattle.std.specs.Prelude.{nat_eq}
use Rattle.std.specs.List.{AllByRecursion, starts_with}
use Rattle.std.proofs.lemmas.Bool.{cases_Bool, cond-true, cond-false, lt-ltb, ltb-true, and_from}
use Rattle.std.proofs.lemmas.List.{length-reverse, length-replicate, append_assoc, reverse-reverse, replicate-append-replicate}
use Rattle.std.proofs.lemmas.List.FromFn.{get_or-map-range_with_len, length-map-range_with_len, length-range_with_len}
use Rattle.std.proofs.lemmas.Nat.{div-mul-add, mod-mul-add}
use Rattle.agm_net.specs.Plain.{PlainNet, input_bits, data_ports, ports_but}
use Rattle.agm_net.specs.Role.{share_name, state_name}
use Rattle.agm_net.specs.Trace.{Row, row_at, bit_at, IsTrace}
use Rattle.agm_net.specs.declared.port.Port.{Port}
use Rattle.agm_net.proofs.Lists.{all_joined, all_places, all_of_one}
use Rattle.share_wiring.specs.Recombine.{port_value}
use Rattle.share_wiring.specs.ReportOf.{streams_of}
use Rattle.share_wiring.specs.Schedule as schedule
use Rattle.share_wiring.specs.Schedule.{stream_at, load_cycles, chosen, IsInputCycle, reading_cycle, input_values, Drives}
use Rattle.share_wiring.specs.Shape.{Header, indices, input_of_width, one_input, masked_headers, headers_of}
use Rattle.share_wiring.specs.declared.report.Report.{Report}
use Rattle.share_wiring.specs.declared.report.Balance.{Balance}
use Rattle.share_wiring.specs.declared.report.Balance.TheVariants.{Pipe, Gate}
use Rattle.share_wiring.proofs.DrivenRows.{chosen_secret, chosen_public, all_flat, always, one_number, wide_entries}
use Rattle.share_wiring.proofs.Lists.{flat_map_nothing}
use Rattle.stimulus.specs.declared.stimuli.Stream.{Stream}
use Rattle.shared_tape.specs.Cycles.{has_inputs, stream_in, step_in, cycles}
use Rattle.shared_tape.specs.Driven.{HasSchedule, with_random, whole_rows}
use Rattle.shared_tape.specs.Filled.{filled, zeros, AreStreams}
use Rattle.shared_tape.specs.Inputs.{inputs_of, inputs_row, sharings, inputs_width}
use Rattle.shared_tape.specs.Rows.{secret_count, state_row, state_width, step_row, turn_in, state_part, inputs_part, tape_row}
use Rattle.shared_tape.specs.Sharing.{draws_of, share_row}
use Rattle.shared_tape.specs.SharedTape.{SharedTape}
use Rattle.shared_tape.proofs.Entries.{Told, Within, Left, told_each, wide_value, wide_apart, masked_others}
use Rattle.shared_tape.proofs.Filling.{IsWide, each_wide, filled_long}
use Rattle.shared_tape.proofs.Recombined.{recombines_falling}
use Rattle.shared_tape.proofs.Sharings.{row_long}
use Rattle.shared_tape.proofs.Steps.{behind_clock, wide_step, states_step, own_step}
use Rattle.shared_tape.proofs.Wide.{inputs_wide}

-- ---- rows with random bits

whole_at : (randoms rows : List Row) (t : ℕ) → length randoms ≡ length rows → t < length rows → row_at (whole_rows randoms rows) t ≡ with_random (row_at randoms t) (row_at rows t)
whole_at [] [] t same lt = absurd (omega (arith, lt))
whole_at [] (x ∷ xs) t same lt = absurd (omega (arith, same))
whole_at (r ∷ rs) [] t same lt = absurd (omega (arith, lt))
whole_at (r ∷ rs) (x ∷ xs) zero same lt = refl
whole_at (r ∷ rs) (x ∷ xs) (suc t) same lt = whole_at rs xs t (omega (arith, same)) (omega (arith, lt))

whole_long : (randoms rows : List Row) → length randoms ≡ length rows → length (whole_rows randoms rows) ≡ length rows
whole_long [] [] same = refl
whole_long [] (x ∷ xs) same = absurd (omega (arith, same))
whole_long (r ∷ rs) [] same = absurd (omega (arith, same))
whole_long (r ∷ rs) (x ∷ xs) same = ap suc (whole_long rs xs (omega (arith, same)))

-- ---- zeros

joined_zeros : (n : ℕ) (is : List ℕ) → flat_map (λ i. zeros n) is ≡ zeros (length is * n)
joined_zeros n [] = let none : 0 ≡ 0 * n = omega arith in ap zeros none
joined_zeros n (i ∷ is) =
    ap (λ xs. zeros n ++ xs) (joined_zeros n is) ∙ (replicate-append-replicate n (length is * n) false ∙ ap zeros (more n (length is)))
  where
    more : (n m : ℕ) → n + m * n ≡ suc m * n
    more n m = omega arith

-- ---- cycles

load_is : (balance : Balance) (period : ℕ) → streams_of balance period ≡ load_cycles balance period
load_is Pipe period = refl
load_is Gate period = refl

turn_of : (period s k t : ℕ) → s < period → t ≡ 1 + s + period * k → ((t - 1) % period ≡ s) × ((t - 1) / period ≡ k)
turn_of period s k t lt at =
    let swapped : period * k ≡ k * period = mul_comm period k in
    let back : t - 1 ≡ k * period + s = omega (arith, at, swapped) in
    (ap (λ n. n % period) back ∙ mod-mul-add k period s lt, ap (λ n. n / period) back ∙ div-mul-add k period s lt)

-- the step and the stream that stand in an input cycle, and that the run goes on behind it
turn_is : (balance : Balance) (period steps s k t : ℕ) → s < streams_of balance period → k < steps → IsInputCycle balance period s k t
    → (0 < t) × (stream_in balance period t ≡ s) × (step_in period t ≡ k) × (t < period * steps + streams_of balance period)
turn_is Pipe period steps s k t turn lt at =
    let found = turn_of period s k t turn at in
    let le : suc k ≤ steps = omega (arith, lt) in
    let more : period * suc k ≤ period * steps = mul-le-mul_left period le in
    let spread : period * suc k ≡ period * k + period = mul-suc period k in
    (omega (arith, at), found.0, found.1, omega (arith, at, more, spread, turn))
turn_is Gate period steps s k t turn lt at =
    let le : suc k ≤ steps = omega (arith, lt) in
    let more : period * suc k ≤ period * steps = mul-le-mul_left period le in
    let spread : period * suc k ≡ period * k + period = mul-suc period k in
    let next : period * (k + 1) ≡ period * suc k = ap (λ n. period * n) (omega arith) in
    let rest = t - (1 + period * k) in
    let low : 1 + period * k ≤ t = at.0 in
    let high : t ≤ period * (k + 1) = at.1 in
    let is : t ≡ 1 + rest + period * k = omega (arith, low) in
    let small : rest < period = omega (arith, low, high, next, spread) in
    let found = turn_of period rest k t small is in
    (omega (arith, low), omega (arith, turn), found.1, omega (arith, high, next, more))

-- outputs are read within the run
read_within : (balance : Balance) (period latency steps s k : ℕ) → period ≡ latency + 1 → s < streams_of balance period → k < steps → reading_cycle balance period latency s k < period * steps + streams_of balance period
read_within Pipe period latency steps s k long turn lt =
    let le : suc k ≤ steps = omega (arith, lt) in
    let more : period * suc k ≤ period * steps = mul-le-mul_left period le in
    let spread : period * suc k ≡ period * k + period = mul-suc period k in
    omega (arith, more, spread, turn, long)
read_within Gate period latency steps s k long turn lt =
    let le : suc k ≤ steps = omega (arith, lt) in
    let more : period * suc k ≤ period * steps = mul-le-mul_left period le in
    let next : period * (k + 1) ≡ period * suc k = ap (λ n. period * n) (omega arith) in
    omega (arith, more, next)

-- ---- places of ports

place_but : (p : Port) (ports : List Port) (c n : ℕ) → slice_get (take c ports ++ drop (c + 1) ports) n ≡ Some p → (m : ℕ) × (slice_get ports m ≡ Some p)
place_but p [] zero n at = (n, at)
place_but p [] (suc c) n at =
    let next : suc c + 1 ≡ suc (c + 1) = omega arith in
    (n, subst (λ k. slice_get (take (suc c) [] ++ drop k []) n ≡ Some p) next at)
place_but p (q ∷ qs) zero n at = (suc n, at)
place_but p (q ∷ qs) (suc c) zero at = (0, at)
place_but p (q ∷ qs) (suc c) (suc n) at =
    let next : suc c + 1 ≡ suc (c + 1) = omega arith in
    let rest = place_but p qs c n (subst (λ k. slice_get (take c qs ++ drop k (q ∷ qs)) n ≡ Some p) next at) in
    (suc rest.0, rest.1)

place_of : (net : PlainNet) (n : ℕ) (p : Port) → slice_get (data_ports net) n ≡ Some p → (m : ℕ) × (slice_get net.ports m ≡ Some p)
place_of net n p at = of_clock net.clock at
  where
    of_clock : (clock : Option ℕ) → slice_get (ports_but clock net.ports) n ≡ Some p → (m : ℕ) × (slice_get net.ports m ≡ Some p)
    of_clock None found = (n, found)
    of_clock (Some c) found = place_but p net.ports c n found

module _ (original : PlainNet) (report : Report) (net : PlainNet) (has : HasSchedule original report net) (streams : List Stream) (seed : List ℕ) (rows : List Row) (shared : SharedTape original report streams seed rows)
    (few : length streams ≤ report.streams) (fits : AreStreams (length original.registers) (length (input_bits original)) shared.steps streams)
    (randoms : List Row) (power : Row) (table : List Row) (as_many : length randoms ≡ length rows) (random : All (λ r. length r ≡ report.random) randoms) (trace : IsTrace net power (whole_rows randoms rows) table) where
  abbrev secrets : List Bool
  secrets = shared.secrets

  abbrev steps : ℕ
  steps = shared.steps

  abbrev regs : ℕ
  regs = length original.registers

  abbrev wide : ℕ
  wide = length (input_bits original)

  abbrev all : List schedule.Stream
  all = filled regs wide report.streams steps streams

  abbrev count : ℕ
  count = cycles report.period report.streams steps

  abbrev row : ℕ → Row
  row = tape_row seed report secrets (inputs_of original report) all steps

  abbrev bit : ℕ → ℕ → Bool
  bit t = bit_at table t

  each : (s : ℕ) → s < report.streams → IsWide regs wide steps (stream_at all s)
  each s lt = each_wide regs wide report.streams steps streams fits s lt

  rows_many : length rows ≡ count
  rows_many = ap (λ (rs : List Row). length rs) shared.rows_are ∙ length-map-range_with_len row 0 count

  long : length table ≡ count
  long = trace.as_long ∙ (whole_long randoms rows as_many ∙ rows_many)

  -- ---- what the ports are given in a cycle

  abbrev random_row : ℕ → Row
  random_row t = reverse (row_at randoms t)

  random_wide : (t : ℕ) → t < length table → length (random_row t) ≡ report.random
  random_wide t lt = length-reverse (row_at randoms t) ∙ random t [] (omega (arith, lt, long, rows_many, as_many))

  told_inputs : (t : ℕ) → t < length table
      → map (bit t) (input_bits net) ≡ nat_lt t report.streams ∷ (random_row t ++ (state_part seed report secrets all t ++ inputs_part seed report secrets (inputs_of original report) all steps t))
  told_inputs t lt =
      trace.inputs_given t lt
      ∙ (whole_at randoms rows t as_many (omega (arith, lt, long, rows_many))
      ∙ ap (with_random (row_at randoms t)) (ap (λ rs. row_at rs t) shared.rows_are ∙ get_or-map-range_with_len row 0 count t t [] (omega (arith, lt, long)) (zero-add t)))

  abbrev states : List Header
  states = flat_map (λ i. input_of_width (state_name i) report.secret_registers) (indices report.order)

  abbrev own : List Header
  own = flat_map (masked_headers report) (data_ports original)

  begun : (t : ℕ) → t < length table
      → Left net (bit t) (one_input (codes "agm_load") ∷ (input_of_width (codes "agm_r") report.random ++ (input_of_width (codes "agm_q_p") report.public_registers ++ (states ++ own))))
      (nat_lt t report.streams ∷ (random_row t ++ (state_part seed report secrets all t ++ inputs_part seed report secrets (inputs_of original report) all steps t)))
  begun t lt = behind_clock net (bit t) (one_input (codes "agm_clk")) _ _ has.shape.clock has.shape.headers (told_inputs t lt)

  loaded : (t : ℕ) → (lt : t < length table)
      → AllByRecursion (Told net (bit t)) ((one_input (codes "agm_load"), nat_lt t report.streams ∷ []) ∷ [])
      × Left net (bit t) (input_of_width (codes "agm_r") report.random ++ (input_of_width (codes "agm_q_p") report.public_registers ++ (states ++ own)))
      (random_row t ++ (state_part seed report secrets all t ++ inputs_part seed report secrets (inputs_of original report) all steps t))
  loaded t lt =
      let left = begun t lt in
      told_each net has.well (bit t) left.ports ((one_input (codes "agm_load"), nat_lt t report.streams ∷ []) ∷ []) _ _ left.within left.heads ((λ on. refl), tt) left.bits

  behind_random : (t : ℕ) → t < length table
      → Left net (bit t) (input_of_width (codes "agm_q_p") report.public_registers ++ (states ++ own)) (state_part seed report secrets all t ++ inputs_part seed report secrets (inputs_of original report) all steps t)
  behind_random t lt = (wide_step net has.well (bit t) (codes "agm_r") report.random (random_row t) _ _ (random_wide t lt) (loaded t lt).1).1

  -- ---- initial states

  abbrev secret_at : ℕ → Row
  secret_at s = chosen true secrets (stream_at all s).initial

  abbrev public_at : ℕ → Row
  public_at s = reverse (chosen false secrets (stream_at all s).initial)

  abbrev draws_at : ℕ → Row
  draws_at s = draws_of seed report.order (s * secret_count secrets) (secret_count secrets)

  abbrev shares_at : ℕ → ℕ → Row
  shares_at s i = reverse (share_row (draws_at s) report.order 0 (secret_at s) i)

  registers_are : (report.secret_registers ≡ secret_count secrets) × (report.public_registers ≡ count_by not secrets)
  registers_are = has.registers secrets shared.tells

  initial_wide : (s : ℕ) → s < report.streams → length (stream_at all s).initial ≡ length secrets
  initial_wide s lt = (each s lt).initial ∙ sym shared.tells.one_each

  public_wide : (s : ℕ) → s < report.streams → length (public_at s) ≡ report.public_registers
  public_wide s lt = length-reverse (chosen false secrets (stream_at all s).initial) ∙ (chosen_public secrets (stream_at all s).initial (initial_wide s lt) ∙ sym registers_are.1)

  shares_wide : (s i : ℕ) → s < report.streams → length (shares_at s i) ≡ report.secret_registers
  shares_wide s i lt =
      length-reverse (share_row (draws_at s) report.order 0 (secret_at s) i)
      ∙ (row_long (draws_at s) report.order 0 (secret_at s) i ∙ (chosen_secret secrets (stream_at all s).initial (initial_wide s lt) ∙ sym registers_are.0))

  abbrev rest_at : ℕ → Row
  rest_at t = inputs_part seed report secrets (inputs_of original report) all steps t

  stated : (s : ℕ) → s < report.streams → s < length table
      → AllByRecursion (Told net (bit s)) (wide_entries (codes "agm_q_p") report.public_registers (public_at s))
      × AllByRecursion (λ i. AllByRecursion (Told net (bit s)) (wide_entries (state_name i) report.secret_registers (shares_at s i))) (indices report.order)
      × Left net (bit s) own (rest_at s)
  stated s lt less =
      let left = behind_random s less in
      let on = cond-true (nat_lt s report.streams) (state_row seed report.order secrets (stream_at all s).initial s) (zeros (state_width report.order secrets)) (lt-ltb s report.streams lt) in
      let bits = left.bits ∙ (ap (λ xs. xs ++ rest_at s) on ∙ append_assoc (public_at s) (flat_map (shares_at s) (indices report.order)) (rest_at s)) in
      let first = wide_step net has.well (bit s) (codes "agm_q_p") report.public_registers (public_at s) (states ++ own) (flat_map (shares_at s) (indices report.order) ++ rest_at s) (public_wide s lt)
      (record { ports = left.ports; within = left.within; heads = left.heads; bits = bits }) in
      let second = states_step net has.well (bit s) report.secret_registers (shares_at s) (indices report.order) own (rest_at s) (λ i. shares_wide s i lt) first.1 in
      (first.0, second.0, second.1)

  -- the ports behind those for initial states, where these are open
  opened : (t : ℕ) → nat_lt t report.streams ≡ false → t < length table → Left net (bit t) own (rest_at t)
  opened t off less =
      let left = behind_random t less in
      let closed = cond-false (nat_lt t report.streams) (state_row seed report.order secrets (stream_at all t).initial t) (zeros (state_width report.order secrets)) off in
      let n = report.secret_registers in
      let cut : zeros (state_width report.order secrets) ≡ zeros report.public_registers ++ flat_map (λ i. zeros n) (indices report.order) =
      ap₂ (λ a b. zeros (a + (report.order + 1) * b)) (sym registers_are.1) (sym registers_are.0)
      ∙ (sym (replicate-append-replicate report.public_registers ((report.order + 1) * n) false)
      ∙ ap (λ xs. zeros report.public_registers ++ xs) (ap (λ m. zeros (m * n)) (sym (length-range_with_len 0 (report.order + 1))) ∙ sym (joined_zeros n (indices report.order)))) in
      let bits = left.bits ∙ (ap (λ xs. xs ++ rest_at t) (closed ∙ cut) ∙ append_assoc (zeros report.public_registers) (flat_map (λ i. zeros n) (indices report.order)) (rest_at t)) in
      let first = wide_step net has.well (bit t) (codes "agm_q_p") report.public_registers (zeros report.public_registers) (states ++ own) (flat_map (λ i. zeros n) (indices report.order) ++ rest_at t)
      (length-replicate report.public_registers false) (record { ports = left.ports; within = left.within; heads = left.heads; bits = bits }) in
      (states_step net has.well (bit t) n (λ i. zeros n) (indices report.order) own (rest_at t) (λ i. length-replicate n false) first.1).1

  left_own : (t : ℕ) → t < length table → Left net (bit t) own (rest_at t)
  left_own t less = elim (cases_Bool (nat_lt t report.streams)) [ inl on ↦ (stated t (ltb-true t report.streams on) less).2 | inr off ↦ opened t off less ]

  -- ---- all

  data_place : Within original (data_ports original)
  data_place = λ k p at. place_of original k p at

  data_free : AllByRecursion (λ p. starts_with nat_eq p.name (codes "agm_") ≡ false) (data_ports original)
  data_free = all_places (λ p. starts_with nat_eq p.name (codes "agm_") ≡ false) (data_ports original) (λ n p at. (let place = place_of original n p at in all_of_one (λ q. starts_with nat_eq q.name (codes "agm_") ≡ false) original.ports place.0 p has.free place.1))

  inputs_are : (t s k : ℕ) → t < length table → s < report.streams → k < steps → 0 < t → stream_in report.balance report.period t ≡ s → step_in report.period t ≡ k
      → input_values original report net (bit t) ≡ row_at (stream_at all s).steps k
  inputs_are t s k less turn lt some is_s is_k =
      let values = row_at (stream_at all s).steps k in
      let left = left_own t less in
      let on : has_inputs report.period steps t ≡ true = and_from (nat_lt 0 t) (nat_lt (step_in report.period t) steps) (lt-ltb 0 t some) (lt-ltb (step_in report.period t) steps (subst (λ n. n < steps) (sym is_k) lt)) in
      let draws = draws_of seed report.order (report.streams * secret_count secrets + turn_in report t * sharings (inputs_of original report)) (sharings (inputs_of original report)) in
      let here : rest_at t ≡ inputs_row draws report.order 0 (inputs_of original report) values =
      cond-true (has_inputs report.period steps t)
      (step_row seed report secrets (inputs_of original report) (turn_in report t) (row_at (stream_at all (stream_in report.balance report.period t)).steps (step_in report.period t)))
      (zeros (inputs_width report.order (inputs_of original report))) on
      ∙ ap₂ (λ a b. inputs_row draws report.order 0 (inputs_of original report) (row_at (stream_at all a).steps b)) is_s is_k in
      own_step net has.well (bit t) original has.first report draws (data_ports original) 0 values data_place ((each s turn).rows k lt ∙ sym (inputs_wide original report))
      (record { ports = left.ports; within = left.within; heads = left.heads; bits = left.bits ∙ here })

  -- no port has another name
  no_header : (name : List ℕ) → bytes_eq (codes "agm_clk") name ≡ false → bytes_eq (codes "agm_load") name ≡ false → bytes_eq (codes "agm_r") name ≡ false
      → AllByRecursion (λ h. bytes_eq h.name name ≡ false) (input_of_width (codes "agm_q_p") report.public_registers)
      → AllByRecursion (λ h. bytes_eq h.name name ≡ false) states
      → ((i : ℕ) (x : List ℕ) → bytes_eq (share_name i x) name ≡ false) → starts_with nat_eq name (codes "agm_") ≡ true
      → AllByRecursion (λ h. bytes_eq h.name name ≡ false) (headers_of original report)
  no_header name clock load rand public secret shares begins =
      let P : Header → Type 0 = λ h. bytes_eq h.name name ≡ false in
      let publics = input_of_width (codes "agm_q_p") report.public_registers in (
        clock,
        (
          load,
          all_joined P (input_of_width (codes "agm_r") report.random) (publics ++ (states ++ own)) (wide_apart name (codes "agm_r") report.random rand)
              (all_joined P publics (states ++ own) public (all_joined P states own secret (masked_others report name shares begins (data_ports original) data_free))),
        ),
      )

  public_is : (s : ℕ) → s < report.streams → s < length table → port_value net (codes "agm_q_p") (bit s) ≡ public_at s
  public_is s lt less =
      wide_value net (bit s) (headers_of original report) has.shape.headers (codes "agm_q_p") report.public_registers (public_at s) (stated s lt less).0
      (λ none. no_header (codes "agm_q_p") refl refl refl (subst (λ n. AllByRecursion (λ h. bytes_eq h.name (codes "agm_q_p") ≡ false) (input_of_width (codes "agm_q_p") n)) (sym none) tt)
      (all_flat (λ h. bytes_eq h.name (codes "agm_q_p") ≡ false) (λ k. input_of_width (state_name k) report.secret_registers) (indices report.order)
      (always (λ k. AllByRecursion (λ h. bytes_eq h.name (codes "agm_q_p") ≡ false) (input_of_width (state_name k) report.secret_registers)) (λ k. wide_apart (codes "agm_q_p") (state_name k) report.secret_registers refl) (indices report.order)))
      (λ i x. refl) refl)
      (public_wide s lt)

  share_is : (s i : ℕ) → s < report.streams → s < length table → i ≤ report.order → port_value net (state_name i) (bit s) ≡ shares_at s i
  share_is s i lt less le =
      wide_value net (bit s) (headers_of original report) has.shape.headers (state_name i) report.secret_registers (shares_at s i)
      (one_number (λ k. AllByRecursion (Told net (bit s)) (wide_entries (state_name k) report.secret_registers (shares_at s k))) i 0 (report.order + 1) (omega arith) (omega (arith, le)) (stated s lt less).1)
      (λ none. no_header (state_name i) refl refl refl (wide_apart (state_name i) (codes "agm_q_p") report.public_registers refl)
      (subst (AllByRecursion (λ h. bytes_eq h.name (state_name i) ≡ false)) (sym (flat_map_nothing (λ k. input_of_width (state_name k) report.secret_registers) (indices report.order) (λ k. ap (input_of_width (state_name k)) none))) tt)
      (λ j x. refl) refl)
      (shares_wide s i lt)

  many : length all ≡ report.streams
  many = filled_long regs wide report.streams steps streams few

  below : (s : ℕ) → s < length all → s < report.streams
  below s lt = omega (arith, lt, many)

  in_turn : (s : ℕ) → s < length all → s < streams_of report.balance report.period
  in_turn s lt = let are = has.turns in omega (arith, lt, many, are)

  ends : length table ≡ report.period * steps + streams_of report.balance report.period
  ends = long ∙ ap (λ n. report.period * steps + n) has.turns

  early : (s : ℕ) → s < length all → s < length table
  early s lt = omega (arith, lt, many, long)

  pub drives : Drives original secrets report net all steps table
  drives = record {
    as_many = many;
    as_long = λ s lt. (each s (below s lt)).long;
    load = λ t lt. (loaded t lt).0.0 refl ∙ ap (λ n. nat_lt t n ∷ []) (has.turns ∙ load_is report.balance report.period);
    public_state = λ s lt. ap reverse (public_is s (below s lt) (early s lt)) ∙ reverse-reverse (chosen false secrets (stream_at all s).initial);
    secret_state = λ s lt.
        ap reverse (recombines_falling (draws_at s) report.order 0 (secret_at s) (λ i. port_value net (state_name i) (bit s)) (λ i le. share_is s i (below s lt) (early s lt) le))
        ∙ reverse-reverse (secret_at s);
    inputs = λ s k t lt less is.
        let found = turn_is report.balance report.period steps s k t (in_turn s lt) less is in
        inputs_are t s k (omega (arith, ends, found.3)) (below s lt) less found.0 found.1 found.2;
    is_read = λ s k lt less. let within = read_within report.balance report.period report.latency steps s k has.period (in_turn s lt) less in omega (arith, within, ends);
  }
