-- A stimulus with the streams that it lacks.
use Rattle.std.specs.Prelude.{◌≡◌, ℕ, ◌-◌, ◌++◌, Bool, false, List, All, length, map, replicate}
use Rattle.share_wiring.specs.Schedule as schedule
use Rattle.stimulus.specs.declared.stimuli.Stream.{Stream}

abbrev pub stream_of : Stream → schedule.Stream
stream_of s = record { initial = s.initial; steps = s.steps }

abbrev pub zeros : ℕ → List Bool
zeros n = replicate n false

-- a stream with value 0 throughout, of so many registers and input bits
abbrev pub zero_stream : (registers width steps : ℕ) → schedule.Stream
zero_stream registers width steps = record { initial = zeros registers; steps = replicate steps (zeros width) }

-- the streams, and behind them as many others as are missing from so many
abbrev pub filled : (registers width count steps : ℕ) → List Stream → List schedule.Stream
filled registers width count steps streams = map stream_of streams ++ replicate (count - length streams) (zero_stream registers width steps)

-- streams of so many registers, steps and input bits
abbrev pub AreStreams : (registers width steps : ℕ) → List Stream → Type 0
AreStreams registers width steps streams = All (λ s. (length s.initial ≡ registers) × (length s.steps ≡ steps) × All (λ row. length row ≡ width) s.steps) streams
