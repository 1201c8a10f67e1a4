-- The rows of the tape of a masked net.
use Rattle.std.specs.Prelude.{ℕ, ◌+◌, ◌*◌, ◌++◌, ◌∷◌, Bool, true, false, not, cond, nat_lt, List, map, reverse, count_by}
use Rattle.std.specs.List.{range_with_len}
use Rattle.agm_net.specs.Trace.{Row, row_at}
use Rattle.share_wiring.specs.Schedule.{Stream, stream_at, chosen}
use Rattle.share_wiring.specs.declared.report.Report.{Report}
use Rattle.shared_tape.specs.Sharing.{falling_rows, draws_of}
use Rattle.shared_tape.specs.Inputs.{sharings, inputs_row, inputs_width}
use Rattle.shared_tape.specs.Cycles.{has_inputs, stream_in, step_in, cycles}
use Rattle.shared_tape.specs.Filled.{zeros}
use Rattle.shared_tape.specs.declared.inputs.Input.{Input}

abbrev pub secret_count : List Bool → ℕ
secret_count secrets = count_by (λ s. s) secrets

-- The initial state of stream s: `agm_q_p`, then `agm_q_s0` to `agm_q_s<d>`. The sharings of all streams' initial states come first.
abbrev pub state_row : List ℕ → (d : ℕ) → List Bool → Row → ℕ → Row
state_row seed d secrets initial s =
    reverse (chosen false secrets initial) ++ falling_rows (draws_of seed d (s * secret_count secrets) (secret_count secrets)) d 0 (chosen true secrets initial)

abbrev pub state_width : ℕ → List Bool → ℕ
state_width d secrets = count_by not secrets + (d + 1) * secret_count secrets

-- The inputs of a step. Behind the initial states come the sharings of steps, and in each step those of all streams; `turn` counts so.
abbrev pub step_row : List ℕ → Report → List Bool → List Input → (turn : ℕ) → Row → Row
step_row seed report secrets inputs turn values =
    inputs_row (draws_of seed report.order (report.streams * secret_count secrets + turn * sharings inputs) (sharings inputs)) report.order 0 inputs values

abbrev pub turn_in : Report → ℕ → ℕ
turn_in report t = step_in report.period t * report.streams + stream_in report.balance report.period t

-- what the ports for the initial state have in cycle t: 0 where it is open
abbrev pub state_part : List ℕ → Report → List Bool → List Stream → ℕ → Row
state_part seed report secrets streams t =
    cond (nat_lt t report.streams) (state_row seed report.order secrets (stream_at streams t).initial t) (zeros (state_width report.order secrets))

-- what the ports for the original's inputs have in cycle t: 0 where they are open
abbrev pub inputs_part : List ℕ → Report → List Bool → List Input → List Stream → (steps t : ℕ) → Row
inputs_part seed report secrets inputs streams steps t =
    cond (has_inputs report.period steps t)
    (step_row seed report secrets inputs (turn_in report t) (row_at (stream_at streams (stream_in report.balance report.period t)).steps (step_in report.period t)))
    (zeros (inputs_width report.order inputs))

-- Cycle t of the tape: `agm_load`, the ports for the initial state, the ports for the original's inputs.
abbrev pub tape_row : List ℕ → Report → List Bool → List Input → List Stream → (steps t : ℕ) → Row
tape_row seed report secrets inputs streams steps t =
    nat_lt t report.streams ∷ (state_part seed report secrets streams t ++ inputs_part seed report secrets inputs streams steps t)

abbrev pub tape_width : ℕ → List Bool → List Input → ℕ
tape_width d secrets inputs = 1 + (state_width d secrets + inputs_width d inputs)

abbrev pub tape_rows : List ℕ → Report → List Bool → List Input → List Stream → ℕ → List Row
tape_rows seed report secrets inputs streams steps =
    map (tape_row seed report secrets inputs streams steps) (range_with_len 0 (cycles report.period report.streams steps))
