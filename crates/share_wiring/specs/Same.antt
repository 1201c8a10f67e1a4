-- When a masked net computes what the original does.
use Rattle.std.specs.Prelude.{◌≡◌, ◌<◌, ℕ, Bool, false, List, length, slice_get, slice_index_or, map, Some, IsTrue, ◌↔◌}
use Rattle.agm_net.specs.Plain.{PlainNet, Stored}
use Rattle.agm_net.specs.Trace.{Row, bit_at, IsTrace}
use Rattle.agm_net.specs.Loop.{HasNoLoop}
use Rattle.agm_net.specs.Secret.{IsSecret}
use Rattle.agm_net.specs.declared.mark.Mark.{Mark}
use Rattle.agm_net.specs.declared.port.Way.TheVariants.{Output}
use Rattle.agm_net.specs.declared.port.Port.{Port}
use Rattle.share_wiring.specs.declared.report.Report.{Report}
use Rattle.share_wiring.specs.Recombine.{masked_value}
use Rattle.share_wiring.specs.Shape.{Shape}
use Rattle.share_wiring.specs.Schedule.{Stream, stream_at, reading_cycle, Drives}

-- one Bool for each register, which says whether its output is secret
pub record TellsSecrets (net : PlainNet) (marks : List Mark) (secrets : List Bool) : Type 0 where
  pub one_each : length secrets ≡ length net.registers
  pub tells : (n : ℕ) (r : Stored) → slice_get net.registers n ≡ Some r → IsTrue (slice_index_or secrets n false) ↔ IsSecret net marks r.q

-- The masked net has the ports of one, has no loop, and computes the original: whatever its power-up contents and its tape, random
-- bits among it, in every trace that a stimulus drives, each output read in its cycle is the one that the original's trace has in
-- that step, from the stream's initial state and with the stream's inputs.
-- It is never stated without `ReportOf` of the same report. Alone it holds where there is nothing to compare: of a net that nothing
-- drives, as by a report without streams, and of an original with a loop, which may have no trace.
pub record Same (original : PlainNet) (marks : List Mark) (report : Report) (net : PlainNet) : Type 0 where
  pub shape : Shape original report net
  pub no_loop : HasNoLoop net
  pub outputs : (power : Row) (tape table : List Row) (secrets : List Bool) (streams : List Stream) (steps : ℕ)
      → IsTrace net power tape table → TellsSecrets original marks secrets → Drives original secrets report net streams steps table
      → (s k : ℕ) (first : List Row) → s < length streams → k < steps → IsTrace original (stream_at streams s).initial (stream_at streams s).steps first
      → (n : ℕ) (p : Port) → slice_get original.ports n ≡ Some p → p.way ≡ Output
      → masked_value net report p.name (bit_at table (reading_cycle report.balance report.period report.latency s k)) ≡ map (bit_at first k) p.bits
