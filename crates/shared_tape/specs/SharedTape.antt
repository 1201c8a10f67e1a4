-- The tape of a masked net for a stimulus of the original.
use Rattle.std.specs.Prelude.{◌≡◌, ℕ, Bool, cond, List, All, Option, Some, None, length, map, slice_set}
use Rattle.agm_net.specs.Plain.{PlainNet, input_bits}
use Rattle.agm_net.specs.Trace.{Row}
use Rattle.agm_net.specs.declared.port.Port.{Port}
use Rattle.agm_net.specs.declared.mark.Mark.{Mark}
use Rattle.agm_net.specs.declared.mark.Mark.TheVariants.{Secure, Unmarked, Clock}
use Rattle.share_wiring.specs.Recombine.{is_shared}
use Rattle.share_wiring.specs.Same.{TellsSecrets}
use Rattle.share_wiring.specs.declared.report.Report.{Report}
use Rattle.stimulus.specs.declared.stimuli.Stream.{Stream}
use Rattle.shared_tape.specs.Inputs.{inputs_of}
use Rattle.shared_tape.specs.Filled.{filled}
use Rattle.shared_tape.specs.Rows.{tape_rows}

-- the marks of ports, by the names of the shared ones
abbrev pub port_marks : Report → List Port → List Mark
port_marks report ports = map (λ p. cond (is_shared report p.name) Secure Unmarked) ports

abbrev pub with_clock : Option ℕ → List Mark → List Mark
with_clock None marks = marks
with_clock (Some c) marks = slice_set marks c Clock

-- those of the original; its clock has no shares
abbrev pub named_marks : PlainNet → Report → List Mark
named_marks original report = with_clock original.clock (port_marks report original.ports)

-- The tape of a masked net without its random bits: the rows by the stimulus's streams, and value 0 for those that it lacks, with the
-- registers shared to which the shared inputs lead.
pub record SharedTape (original : PlainNet) (report : Report) (streams : List Stream) (seed : List ℕ) (rows : List Row) : Type 0 where
  pub steps : ℕ
  pub as_long : All (λ s. length s.steps ≡ steps) streams
  pub secrets : List Bool
  pub tells : TellsSecrets original (named_marks original report) secrets
  pub rows_are : rows ≡ tape_rows seed report secrets (inputs_of original report) (filled (length original.registers) (length (input_bits original)) report.streams steps streams) steps
