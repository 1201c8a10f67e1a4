-- How long the rows of a tape are.
use Rattle.std.proofs.Common.{◌≡◌, ◌<◌, ◌+◌, ◌*◌, ℕ, zero, suc, Bool, true, false, cond, List, [], ◌∷◌, length, map, filter, take, drop, reverse, flat_map, nat_lt, get_or, refl, sym, ap, ap₂, ◌∙◌, arith, inl, inr, zero-add}
use Rattle.std.proofs.lemmas.Bool.{cases_Bool, cond-true, cond-false, ltb-true}
use Rattle.std.proofs.lemmas.List.{length-append, length-reverse, length-replicate}
use Rattle.std.proofs.lemmas.List.FromFn.{get_or-map-range_with_len, length-map-range_with_len}
use Rattle.agm_net.specs.Plain.{PlainNet, is_input, data_ports, input_bits}
use Rattle.agm_net.specs.Trace.{Row, row_at}
use Rattle.agm_net.specs.declared.port.Port.{Port}
use Rattle.share_wiring.specs.ReportOf.{streams_of}
use Rattle.share_wiring.specs.Schedule.{Stream, stream_at, chosen}
use Rattle.share_wiring.specs.declared.report.Report.{Report}
use Rattle.share_wiring.proofs.DrivenRows.{chosen_secret, chosen_public}
use Rattle.shared_tape.specs.Sharing.{falling_rows, draws_of, share_rows}
use Rattle.shared_tape.specs.Cycles.{has_inputs, stream_in, step_in, cycles}
use Rattle.shared_tape.specs.Filled.{zeros}
use Rattle.shared_tape.specs.Inputs.{input_of, inputs_of, shared_width, sharings, port_width, port_row, inputs_row, inputs_width, width_of}
use Rattle.shared_tape.specs.Rows.{secret_count, state_row, state_width, step_row, turn_in, state_part, inputs_part, tape_row, tape_width, tape_rows}
use Rattle.shared_tape.specs.declared.inputs.Input.{Input}
use Rattle.shared_tape.proofs.Filling.{IsWide}
use Rattle.shared_tape.proofs.Sharings.{rows_long, falling_long}
use Rattle.shared_tape.proofs.Turns.{stream_below, step_below}

widths : (report : Report) (ports : List Port) → width_of (map (input_of report) ports) ≡ length (flat_map (λ p. p.bits) ports)
widths report [] = refl
widths report (p ∷ ps) = ap (λ n. length p.bits + n) (widths report ps) ∙ sym (length-append p.bits (flat_map (λ q. q.bits) ps))

pub inputs_wide : (original : PlainNet) (report : Report) → width_of (inputs_of original report) ≡ length (input_bits original)
inputs_wide original report = widths report (filter is_input (data_ports original))

pub state_wide : (seed : List ℕ) (d : ℕ) (secrets : List Bool) (initial : Row) (s : ℕ) → length initial ≡ length secrets → length (state_row seed d secrets initial s) ≡ state_width d secrets
state_wide seed d secrets initial s long =
    let draws = draws_of seed d (s * secret_count secrets) (secret_count secrets) in
    length-append (reverse (chosen false secrets initial)) (falling_rows draws d 0 (chosen true secrets initial))
    ∙ ap₂ (λ m n. m + n) (length-reverse (chosen false secrets initial) ∙ chosen_public secrets initial long)
    (falling_long draws d 0 (chosen true secrets initial) ∙ ap (λ n. (d + 1) * n) (chosen_secret secrets initial long))

port_wide : (draws : Row) (d first : ℕ) (p : Input) (values : Row) → length values ≡ p.width → length (port_row draws d first p values) ≡ port_width d p
port_wide draws d first p values long = by p.is_shared
  where
    by : (b : Bool) → length (cond b (share_rows draws d first values) values) ≡ cond b ((d + 1) * p.width) p.width
    by true = rows_long draws d first values ∙ ap (λ n. (d + 1) * n) long
    by false = long

pub taken : (n m : ℕ) (xs : Row) → length xs ≡ n + m → (length (take n xs) ≡ n) × (length (drop n xs) ≡ m)
taken zero m xs long = let rest : length xs ≡ m = omega (arith, long) in (refl, rest)
taken (suc n) m [] long = absurd (omega (arith, long))
taken (suc n) m (x ∷ xs) long = let rest = taken n m xs (omega (arith, long)) in (ap suc rest.0, rest.1)

pub row_wide : (draws : Row) (d first : ℕ) (inputs : List Input) (values : Row) → length values ≡ width_of inputs → length (inputs_row draws d first inputs values) ≡ inputs_width d inputs
row_wide draws d first [] values long = refl
row_wide draws d first (p ∷ ps) values long =
    let cut = taken p.width (width_of ps) values long in
    length-append (port_row draws d first p (take p.width values)) (inputs_row draws d (first + shared_width p) ps (drop p.width values))
    ∙ ap₂ (λ m n. m + n) (port_wide draws d first p (take p.width values) cut.0) (row_wide draws d (first + shared_width p) ps (drop p.width values) cut.1)

module _ (seed : List ℕ) (report : Report) (secrets : List Bool) (inputs : List Input) (streams : List Stream) (steps : ℕ) (some : 0 < report.period) (turns : report.streams ≡ streams_of report.balance report.period)
    (wide : (s : ℕ) → s < report.streams → IsWide (length secrets) (width_of inputs) steps (stream_at streams s)) where
  pub state_part_wide : (t : ℕ) → length (state_part seed report secrets streams t) ≡ state_width report.order secrets
  state_part_wide t =
      let here = state_row seed report.order secrets (stream_at streams t).initial t in
      let open_row = zeros (state_width report.order secrets) in
      elim (cases_Bool (nat_lt t report.streams)) [
        | inl on ↦ ap (λ (r : Row). length r) (cond-true (nat_lt t report.streams) here open_row on) ∙ state_wide seed report.order secrets (stream_at streams t).initial t (wide t (ltb-true t report.streams on)).initial
        | inr off ↦ ap (λ (r : Row). length r) (cond-false (nat_lt t report.streams) here open_row off) ∙ length-replicate (state_width report.order secrets) false
      ]

  pub inputs_part_wide : (t : ℕ) → length (inputs_part seed report secrets inputs streams steps t) ≡ inputs_width report.order inputs
  inputs_part_wide t =
      let values = row_at (stream_at streams (stream_in report.balance report.period t)).steps (step_in report.period t) in
      let here = step_row seed report secrets inputs (turn_in report t) values in
      let open_row = zeros (inputs_width report.order inputs) in
      elim (cases_Bool (has_inputs report.period steps t)) [
        | inl on ↦ (
            let s = stream_below report.balance report.period t report.streams some turns in
            let k = step_below report.period steps t on in
            ap (λ (r : Row). length r) (cond-true (has_inputs report.period steps t) here open_row on)
            ∙ row_wide (draws_of seed report.order (report.streams * secret_count secrets + turn_in report t * sharings inputs) (sharings inputs)) report.order 0 inputs values ((wide (stream_in report.balance report.period t) s).rows (step_in report.period t) k))
        | inr off ↦ ap (λ (r : Row). length r) (cond-false (has_inputs report.period steps t) here open_row off) ∙ length-replicate (inputs_width report.order inputs) false
      ]

  pub tape_wide : (t : ℕ) → length (tape_row seed report secrets inputs streams steps t) ≡ tape_width report.order secrets inputs
  tape_wide t =
      let joined = length-append (state_part seed report secrets streams t) (inputs_part seed report secrets inputs streams steps t) in
      let first = state_part_wide t in
      let second = inputs_part_wide t in
      omega (arith, joined, first, second)

  pub rows_wide : (rows : List Row) → rows ≡ tape_rows seed report secrets inputs streams steps → (k : ℕ) (d : Row) → k < length rows → length (get_or rows k d) ≡ tape_width report.order secrets inputs
  rows_wide rows are k d lt =
      let row = tape_row seed report secrets inputs streams steps in
      let count = cycles report.period report.streams steps in
      let many : length rows ≡ count = ap (λ (rs : List Row). length rs) are ∙ length-map-range_with_len row 0 count in
      ap (λ (rs : List Row). length (get_or rs k d)) are ∙ (ap (λ (r : Row). length r) (get_or-map-range_with_len row 0 count k k d (omega (arith, lt, many)) (zero-add k)) ∙ tape_wide k)
