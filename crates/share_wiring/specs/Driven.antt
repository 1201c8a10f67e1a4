-- Stimuli for masked nets.
use Rattle.std.specs.Prelude.{◌≡◌, ◌<◌, ℕ, List, length}
use Rattle.agm_net.specs.Plain.{PlainNet, input_bits}
use Rattle.agm_net.specs.Trace.{row_at}
use Rattle.share_wiring.specs.Schedule.{Stream, stream_at}
use Rattle.share_wiring.specs.declared.report.Report.{Report}

-- Streams of so many steps, each with a bit for each input bit of the original, and an initial value for each of its registers.
pub record IsStimulus (original : PlainNet) (report : Report) (streams : List Stream) (steps : ℕ) : Type 0 where
  pub as_many : length streams ≡ report.streams
  pub as_long : (s : ℕ) → s < length streams → length (stream_at streams s).steps ≡ steps
  pub as_wide : (s k : ℕ) → s < length streams → k < steps → length (row_at (stream_at streams s).steps k) ≡ length (input_bits original)
  pub states : (s : ℕ) → s < length streams → length (stream_at streams s).initial ≡ length original.registers
