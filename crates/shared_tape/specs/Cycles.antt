-- What each cycle of a tape holds. Cycles, streams and steps are counted from 0.
use Rattle.std.specs.Prelude.{ℕ, ◌+◌, ◌-◌, ◌*◌, ◌/◌, ◌%◌, ◌&&◌, Bool, nat_lt}
use Rattle.share_wiring.specs.declared.report.Balance.{Balance}
use Rattle.share_wiring.specs.declared.report.Balance.TheVariants.{Pipe, Gate}

-- the stream whose inputs stand in cycle t
abbrev pub stream_in : Balance → (period t : ℕ) → ℕ
stream_in Pipe period t = (t - 1) % period
stream_in Gate period t = 0

-- and their step
abbrev pub step_in : (period t : ℕ) → ℕ
step_in period t = (t - 1) / period

-- whether the inputs of some step stand in cycle t
abbrev pub has_inputs : (period steps t : ℕ) → Bool
has_inputs period steps t = nat_lt 0 t && nat_lt (step_in period t) steps

-- how many cycles there are, up to that in which the last output is read
abbrev pub cycles : (period streams steps : ℕ) → ℕ
cycles period streams steps = period * steps + streams
