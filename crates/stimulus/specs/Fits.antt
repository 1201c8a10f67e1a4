-- A stimulus that a net can be driven with.
use Rattle.std.specs.Prelude.{◌≡◌, ◌<◌, ◌≤◌, ℕ, List, All, length, Option, IfSome}
use Rattle.agm_net.specs.Plain.{PlainNet, input_bits}
use Rattle.stimulus.specs.declared.stimuli.Stream.{Stream}

-- a bit for each register, and so many rows, each with a bit for each input bit
pub record StreamFits (net : PlainNet) (steps : ℕ) (stream : Stream) : Type 0 where
  pub initial : length stream.initial ≡ length net.registers
  pub count : length stream.steps ≡ steps
  pub rows : All (λ row. length row ≡ length (input_bits net)) stream.steps

-- one or more streams, as many as are allowed at the most, of equally many steps, at least one
pub record Fits (net : PlainNet) (limit : Option ℕ) (streams : List Stream) : Type 0 where
  pub some_stream : 0 < length streams
  pub within : IfSome limit (λ n. length streams ≤ n)
  pub steps : ℕ
  pub some_step : 0 < steps
  pub each : All (StreamFits net steps) streams
