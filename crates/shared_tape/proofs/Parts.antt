-- The parts of a tape's rows.
use Rattle.std.proofs.Common.{◌≡◌, ◌+◌, ◌*◌, ◌++◌, ℕ, Bool, true, false, List, ◌∷◌, [], map, nat_lt, sym, ap, ap₂, ◌∙◌, zero-add}
use Rattle.std.specs.List.{range_with_len}
use Rattle.std.proofs.lemmas.Bool.{cond-true, cond-false}
use Rattle.std.proofs.lemmas.List.FromFn.{map-range_with_len_more}
use Rattle.agm_net.specs.Trace.{Row, row_at}
use Rattle.share_wiring.specs.Schedule.{Stream, stream_at}
use Rattle.share_wiring.specs.declared.report.Report.{Report}
use Rattle.shared_tape.specs.Sharing.{draws_of}
use Rattle.shared_tape.specs.Cycles.{has_inputs, stream_in, step_in}
use Rattle.shared_tape.specs.Filled.{zeros}
use Rattle.shared_tape.specs.Inputs.{sharings, inputs_row, inputs_width}
use Rattle.shared_tape.specs.Rows.{secret_count, state_row, state_width, step_row, turn_in, state_part, inputs_part}
use Rattle.shared_tape.specs.declared.inputs.Input.{Input}

pub state_is : (seed : List ℕ) (report : Report) (secrets : List Bool) (streams : List Stream) (t order : ℕ) (initial start row : Row) → order ≡ report.order → nat_lt t report.streams ≡ true
    → initial ≡ (stream_at streams t).initial → row ≡ start ++ state_row seed order secrets initial t → row ≡ start ++ state_part seed report secrets streams t
state_is seed report secrets streams t order initial start row same on is more =
    more ∙ ap (λ xs. start ++ xs)
    (ap₂ (λ d xs. state_row seed d secrets xs t) same is ∙ sym (cond-true (nat_lt t report.streams) (state_row seed report.order secrets (stream_at streams t).initial t) (zeros (state_width report.order secrets)) on))

pub state_open : (seed : List ℕ) (report : Report) (secrets : List Bool) (streams : List Stream) (t order width : ℕ) (start row : Row) → order ≡ report.order → nat_lt t report.streams ≡ false
    → width ≡ state_width order secrets → row ≡ start ++ zeros width → row ≡ start ++ state_part seed report secrets streams t
state_open seed report secrets streams t order width start row same off wide more =
    more ∙ ap (λ xs. start ++ xs)
    (ap zeros (wide ∙ ap (λ d. state_width d secrets) same) ∙ sym (cond-false (nat_lt t report.streams) (state_row seed report.order secrets (stream_at streams t).initial t) (zeros (state_width report.order secrets)) off))

pub inputs_are : (seed : List ℕ) (report : Report) (secrets : List Bool) (inputs : List Input) (streams : List Stream) (steps t order count : ℕ) (draws values start row : Row) → order ≡ report.order
    → has_inputs report.period steps t ≡ true → count ≡ sharings inputs
    → draws ≡ draws_of seed order (report.streams * secret_count secrets + turn_in report t * sharings inputs) count
    → values ≡ row_at (stream_at streams (stream_in report.balance report.period t)).steps (step_in report.period t)
    → row ≡ start ++ inputs_row draws order 0 inputs values → row ≡ start ++ inputs_part seed report secrets inputs streams steps t
inputs_are seed report secrets inputs streams steps t order count draws values start row same on counted drawn are more =
    let place = report.streams * secret_count secrets + turn_in report t * sharings inputs in
    let given = row_at (stream_at streams (stream_in report.balance report.period t)).steps (step_in report.period t) in
    more ∙ ap (λ xs. start ++ xs)
    (ap₂ (λ ds xs. inputs_row ds order 0 inputs xs) (drawn ∙ ap (draws_of seed order place) counted) are
    ∙ (ap (λ d. inputs_row (draws_of seed d place (sharings inputs)) d 0 inputs given) same
    ∙ sym (cond-true (has_inputs report.period steps t) (step_row seed report secrets inputs (turn_in report t) given) (zeros (inputs_width report.order inputs)) on)))

pub inputs_open : (seed : List ℕ) (report : Report) (secrets : List Bool) (inputs : List Input) (streams : List Stream) (steps t order width : ℕ) (start row : Row) → order ≡ report.order
    → has_inputs report.period steps t ≡ false → width ≡ inputs_width order inputs → row ≡ start ++ zeros width → row ≡ start ++ inputs_part seed report secrets inputs streams steps t
inputs_open seed report secrets inputs streams steps t order width start row same off wide more =
    more ∙ ap (λ xs. start ++ xs)
    (ap zeros (wide ∙ ap (λ d. inputs_width d inputs) same)
    ∙ sym (cond-false (has_inputs report.period steps t) (step_row seed report secrets inputs (turn_in report t) (row_at (stream_at streams (stream_in report.balance report.period t)).steps (step_in report.period t))) (zeros (inputs_width report.order inputs)) off))

-- one row more
pub rows_more : (f : ℕ → Row) (k : ℕ) (now rows : List Row) (x : Row) → now ≡ map f (range_with_len 0 k) → x ≡ f k → rows ≡ now ++ x ∷ [] → rows ≡ map f (range_with_len 0 (k + 1))
rows_more f k now rows x before is more = more ∙ (ap (λ xs. xs ++ x ∷ []) before ∙ (ap (λ y. map f (range_with_len 0 k) ++ y ∷ []) is ∙ sym (map-range_with_len_more f 0 k k (zero-add k))))
