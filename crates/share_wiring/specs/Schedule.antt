-- When a masked net is loaded, given its inputs, and read. Times are cycles, counted from 0.
use Rattle.std.specs.Prelude.{◌≡◌, ◌<◌, ◌≤◌, ◌+◌, ◌*◌, ℕ, Bool, true, false, not, cond, List, [], ◌∷◌, length, slice_index_or, nat_lt, filter, map, reverse, codes}
use Rattle.std.specs.List.{flat_map, zip}
use Rattle.agm_net.specs.Plain.{PlainNet, is_input, data_ports}
use Rattle.agm_net.specs.Role.{state_name}
use Rattle.agm_net.specs.Trace.{Row, row_at, bit_at}
use Rattle.share_wiring.specs.Recombine.{port_value, masked_value, recombined_rows}
use Rattle.share_wiring.specs.declared.report.Report.{Report}
use Rattle.share_wiring.specs.declared.report.Balance.{Balance}
use Rattle.share_wiring.specs.declared.report.Balance.TheVariants.{Pipe, Gate}

-- a stream: an initial value for each register of the original, and for each step a row of its input bits
pub record Stream : Type 0 where
  pub initial : Row
  pub steps : List Row

abbrev pub stream_at : List Stream → ℕ → Stream
stream_at streams s = slice_index_or streams s (record { initial = []; steps = [] })

-- in how many of the first cycles `agm_load` is 1
abbrev pub load_cycles : Balance → ℕ → ℕ
load_cycles Pipe period = period
load_cycles Gate period = 1

-- the cycles in which the inputs of step k of stream s stand
abbrev pub IsInputCycle : Balance → ℕ → (s k t : ℕ) → Type 0
IsInputCycle Pipe period s k t = t ≡ 1 + s + period * k
IsInputCycle Gate period s k t = (1 + period * k ≤ t) × (t ≤ period * (k + 1))

-- the cycle in which the outputs of step k of stream s are read
abbrev pub reading_cycle : Balance → (period latency : ℕ) → (s k : ℕ) → ℕ
reading_cycle Pipe period latency s k = 1 + s + period * k + latency
reading_cycle Gate period latency s k = period * (k + 1)

-- of each register of the original whether it is secret; the values of those that are as the Bool says, in register order
abbrev pub chosen : Bool → List Bool → Row → Row
chosen kind secrets values = map (λ p. p.1) (filter (λ p. cond p.0 kind (not kind)) (zip secrets values))

-- what a masked net has for the original's inputs, in the order of its input bits
abbrev pub input_values : PlainNet → Report → PlainNet → (ℕ → Bool) → Row
input_values original report net bit = flat_map (λ p. masked_value net report p.name bit) (filter is_input (data_ports original))

-- A run of a masked net is driven by a stimulus, one stream for each that the report counts, with `steps` steps in each: the load
-- signal is 1 in the first cycles alone; in the cycle of its number each stream's initial state is given, bit k of `agm_q_p` for the
-- k-th public register and the shares in bit k of the ports `agm_q_s<i>` for the k-th secret register; in its input cycles each step
-- is given; and the run is long enough for the last outputs to be read. All else may be anything.
pub record Drives (original : PlainNet) (secrets : List Bool) (report : Report) (net : PlainNet) (streams : List Stream) (steps : ℕ) (table : List Row) : Type 0 where
  pub as_many : length streams ≡ report.streams
  pub as_long : (s : ℕ) → s < length streams → length (stream_at streams s).steps ≡ steps
  pub load : (t : ℕ) → t < length table → port_value net (codes "agm_load") (bit_at table t) ≡ nat_lt t (load_cycles report.balance report.period) ∷ []
  pub public_state : (s : ℕ) → s < length streams → reverse (port_value net (codes "agm_q_p") (bit_at table s)) ≡ chosen false secrets (stream_at streams s).initial
  pub secret_state : (s : ℕ) → s < length streams → reverse (recombined_rows report.order (λ i. port_value net (state_name i) (bit_at table s))) ≡ chosen true secrets (stream_at streams s).initial
  pub inputs : (s k t : ℕ) → s < length streams → k < steps → IsInputCycle report.balance report.period s k t
      → input_values original report net (bit_at table t) ≡ row_at (stream_at streams s).steps k
  pub is_read : (s k : ℕ) → s < length streams → k < steps → reading_cycle report.balance report.period report.latency s k < length table
