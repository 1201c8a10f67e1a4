-- The traces of a net are the tables that keep its drivers, and without a loop the run is the only one.
use Rattle.std.proofs.Common.{◌≡◌, ◌<◌, ◌≤◌, ◌+◌, ℕ, zero, suc, Bool, false, List, [], ◌∷◌, map, length, Some, slice_get, slice_index_or, refl, sym, ap, ◌∙◌, arith, zero-add, add-one}
use Rattle.std.specs.List.{AllByRecursion, range_with_len}
use Rattle.std.proofs.lemmas.List.FromFn.{length-map-range_with_len, get_or-map-range_with_len}
use Rattle.std.proofs.lemmas.Option.{get_or_from_slice_get}
use Rattle.agm_net.specs.Formula.{value}
use Rattle.agm_net.specs.Loop.{HasNoLoop}
use Rattle.agm_net.specs.Plain.{Line, Stored, PlainNet, input_bits, clock_bits}
use Rattle.agm_net.specs.Run.{Driver, d_input, d_clock, d_equation, d_register, d_nothing, HasDriver, driver, asked, before, KeepsDrivers, Fits, bit_in, run_of}
use Rattle.agm_net.specs.Trace.{Row, row_at, bit_at, IsTrace}
use Rattle.agm_net.specs.WellFormed.{WellFormed}
use Rattle.agm_net.proofs.Driving.{driven_is_wire, is_driver, is_driven, now_is_ever, reads_are_wires}
use Rattle.agm_net.proofs.Lists.{all_found, all_of_one, all_places, found_of_all, get_image, items_same, row_is}
use Rattle.agm_net.proofs.Ranks.{ranked}
use Rattle.agm_net.proofs.Runs.{asked_same, bit_is, kept_alike}

-- what holds of each row of a tape holds of the row of each cycle
pub row_has : (P : Row → Type 0) (tape : List Row) → AllByRecursion P tape → (t : ℕ) → t < length tape → P (row_at tape t)
row_has P [] h t lt = absurd (omega arith)
row_has P (row ∷ rows) h zero lt = h.0
row_has P (row ∷ rows) h (suc t) lt = row_has P rows h.1 t (omega arith)

-- a bit of a row that is given by its places
pub image_bit : {X : Type 0} (f : X → Bool) (xs : List X) (row : Row) (n : ℕ) (x : X) → map f xs ≡ row → slice_get xs n ≡ Some x → f x ≡ slice_index_or row n false
image_bit f xs row n x is at = sym (get_or_from_slice_get (map f xs) n (f x) false (get_image f xs n x at)) ∙ ap (λ r. slice_index_or r n false) is

module _ (net : PlainNet) (well : WellFormed net) (power : Row) (tape table : List Row) where
  -- each wire of a trace keeps what its driver asks for
  pub keeps_from_trace : IsTrace net power tape table → KeepsDrivers net power tape table
  keeps_from_trace trace = record {
    as_long = trace.as_long;
    as_wide = trace.as_wide;
    keeps = λ t w lt inside. by_kind (driver net w) t w lt (is_driven net well w inside);
  }
    where
      by_kind : (d : Driver) (t w : ℕ) → t < length table → HasDriver net d w → bit_at table t w ≡ asked d power tape (before (bit_at table) t) (bit_at table t) t
      by_kind (d_input n) t w lt h = image_bit (bit_at table t) (input_bits net) (row_at tape t) n w (trace.inputs_given t lt) h
      by_kind d_clock t w lt h = found_of_all (λ v. bit_at table t v ≡ false) (clock_bits net) (trace.clock_is_low t lt) w h
      by_kind (d_equation f) t w lt h = all_of_one (λ (l : Line). bit_at table t l.0 ≡ value (bit_at table t) l.1) net.lines h.0 (w, f) (trace.equations_hold t lt) h.1
      by_kind (d_register n next) zero w lt h = ap (bit_at table 0) (sym h.2) ∙ image_bit (λ (r : Stored). bit_at table 0 r.q) net.registers power n h.0 (trace.power_given lt) h.1
      by_kind (d_register n next) (suc t) w lt h =
          let more : t + 1 ≡ suc t = add-one t in
          let step = all_of_one (λ (r : Stored). bit_at table (t + 1) r.q ≡ value (bit_at table t) r.next) net.registers n h.0 (trace.registers_step t (omega arith)) h.1 in
          ap (bit_at table (suc t)) (sym h.2) ∙ (ap (λ k. bit_at table k h.0.q) (sym more) ∙ (step ∙ ap (value (bit_at table t)) h.3))
      by_kind d_nothing t w lt h = absurd h

  -- and a table of which each wire does so is a trace
  pub trace_from_keeps : Fits net power tape → KeepsDrivers net power tape table → IsTrace net power tape table
  trace_from_keeps fits kept = record {
    as_long = kept.as_long;
    as_wide = kept.as_wide;
    equations_hold = λ t lt. all_places (λ (l : Line). bit_at table t l.0 ≡ value (bit_at table t) l.1) net.lines (λ n l at. has t l.0 (d_equation l.1) lt (n, at));
    inputs_given = λ t lt. row_is (bit_at table t) (input_bits net) (row_at tape t)
        (let long = kept.as_long in row_has (λ row. length row ≡ length (input_bits net)) tape fits.as_wide t (omega (arith, long, lt)))
        (λ n w at. has t w (d_input n) lt at);
    clock_is_low = λ t lt. all_found (λ w. bit_at table t w ≡ false) (clock_bits net) (λ w found. has t w d_clock lt found);
    power_given = λ some. row_is (λ (r : Stored). bit_at table 0 r.q) net.registers power fits.powered (λ n r at. has 0 r.q (d_register n r.next) some (r, at, refl, refl));
    registers_step = λ t lt. all_places (λ (r : Stored). bit_at table (t + 1) r.q ≡ value (bit_at table t) r.next) net.registers
        (λ n r at. ap (λ k. bit_at table k r.q) (add-one t) ∙ has (suc t) r.q (d_register n r.next) (omega (arith, lt)) (r, at, refl, refl));
  }
    where
      has : (t w : ℕ) (d : Driver) → t < length table → HasDriver net d w → bit_at table t w ≡ asked d power tape (before (bit_at table) t) (bit_at table t) t
      has t w d lt h = kept.keeps t w lt (driven_is_wire net well d w h) ∙ ap (λ e. asked e power tape (before (bit_at table) t) (bit_at table t) t) (is_driver net well d w h)

module _ (net : PlainNet) (well : WellFormed net) (none : HasNoLoop net) (power : Row) (tape : List Row) where
  -- the bits of a trace are those of the run
  pub trace_bits : (table : List Row) → IsTrace net power tape table → (t w : ℕ) → t < length table → w < length net.wires → bit_at table t w ≡ bit_in net power tape t w
  trace_bits table trace =
      kept_alike net well (ranked net well none) power tape tape (bit_at table) (bit_in net power tape) (length table) (λ s lt. refl) (keeps_from_trace net well power tape table trace).keeps
      (λ t w lt inside. bit_is net well (ranked net well none) power tape t w inside)

  run_row : (t : ℕ) → t < length tape → row_at (run_of net power tape) t ≡ map (bit_in net power tape t) (range_with_len 0 (length net.wires))
  run_row t lt = get_or-map-range_with_len (λ s. map (bit_in net power tape s) (range_with_len 0 (length net.wires))) 0 (length tape) t t [] lt (zero-add t)

  -- the table of the run has its bits
  pub run_bits : (t w : ℕ) → t < length tape → w < length net.wires → bit_at (run_of net power tape) t w ≡ bit_in net power tape t w
  run_bits t w lt inside =
      ap (λ row. slice_index_or row w false) (run_row t lt) ∙ get_or-map-range_with_len (bit_in net power tape t) 0 (length net.wires) w w false inside (zero-add w)

  run_long : length (run_of net power tape) ≡ length tape
  run_long = length-map-range_with_len (λ s. map (bit_in net power tape s) (range_with_len 0 (length net.wires))) 0 (length tape)

  run_wide : (t : ℕ) → t < length tape → length (row_at (run_of net power tape) t) ≡ length net.wires
  run_wide t lt = ap length (run_row t lt) ∙ length-map-range_with_len (bit_in net power tape t) 0 (length net.wires)

  -- a trace is the run
  pub trace_is_run : (table : List Row) → IsTrace net power tape table → table ≡ run_of net power tape
  trace_is_run table trace =
      let long = trace.as_long in
      items_same [] table (run_of net power tape) (long ∙ sym run_long) (λ t lt.
      let wide = trace.as_wide t lt in
      let here : t < length tape = omega (arith, long, lt) in
      items_same false (row_at table t) (row_at (run_of net power tape) t) (wide ∙ sym (run_wide t here)) (λ w small.
      let inside : w < length net.wires = omega (arith, wide, small) in
      trace_bits table trace t w lt inside ∙ sym (run_bits t w here inside)))

  -- and the run is a trace
  pub run_is_trace : Fits net power tape → IsTrace net power tape (run_of net power tape)
  run_is_trace fits = trace_from_keeps net well power tape (run_of net power tape) fits (record {
    as_long = run_long;
    as_wide = λ t lt. run_wide t (omega (arith, run_long, lt));
    keeps = λ t w lt inside. kept t w (omega (arith, run_long, lt)) inside;
  })
    where
      past : (t v : ℕ) → t < length tape → v < length net.wires → before (bit_in net power tape) t v ≡ before (bit_at (run_of net power tape)) t v
      past zero v lt inside = refl
      past (suc t) v lt inside = sym (run_bits t v (omega (arith, lt)) inside)

      kept : (t w : ℕ) → t < length tape → w < length net.wires → bit_at (run_of net power tape) t w ≡ asked (driver net w) power tape (before (bit_at (run_of net power tape)) t) (bit_at (run_of net power tape) t) t
      kept t w lt inside =
          run_bits t w lt inside
          ∙ (bit_is net well (ranked net well none) power tape t w inside
          ∙ asked_same (driver net w) power tape (before (bit_in net power tape) t) (before (bit_at (run_of net power tape)) t) (bit_in net power tape t) (bit_at (run_of net power tape) t) t
          (λ v h. past t v lt (reads_are_wires net well w v inside h))
          (λ v h. sym (run_bits t v lt (reads_are_wires net well w v inside (now_is_ever (driver net w) v h)))))

-- the bits of a cycle depend on the rows of a tape up to there
pub looks_back : (net : PlainNet) → WellFormed net → HasNoLoop net → (power : Row) (tape other : List Row) (t : ℕ) → ((s : ℕ) → s ≤ t → row_at tape s ≡ row_at other s)
    → (s w : ℕ) → s ≤ t → w < length net.wires → bit_in net power tape s w ≡ bit_in net power other s w
looks_back net well none power tape other t same s w le inside =
    kept_alike net well (ranked net well none) power tape other (bit_in net power tape) (bit_in net power other) (suc t) (λ u lt. same u (omega (arith, lt)))
    (λ u v lt within. bit_is net well (ranked net well none) power tape u v within) (λ u v lt within. bit_is net well (ranked net well none) power other u v within) s w (omega arith) inside
