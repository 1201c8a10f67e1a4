-- What the tape of a masked net drives.
use Rattle.std.specs.Prelude.{◌≡◌, ◌+◌, ◌++◌, ℕ, Bool, false, not, List, All, length, map, take, drop, reverse, count_by, codes, nat_eq}
use Rattle.std.specs.List.{zip, AllByRecursion, starts_with}
use Rattle.agm_net.specs.Plain.{PlainNet, input_bits}
use Rattle.agm_net.specs.Trace.{Row, IsTrace}
use Rattle.agm_net.specs.WellFormed.{WellFormed}
use Rattle.share_wiring.specs.ReportOf.{streams_of}
use Rattle.share_wiring.specs.Same.{TellsSecrets}
use Rattle.share_wiring.specs.Schedule.{Drives}
use Rattle.share_wiring.specs.Shape.{Shape}
use Rattle.share_wiring.specs.declared.report.Report.{Report}
use Rattle.stimulus.specs.declared.stimuli.Stream.{Stream}
use Rattle.shared_tape.specs.Filled.{filled}
use Rattle.shared_tape.specs.SharedTape.{named_marks, SharedTape}

-- A row of a masked net's input bits: behind the load signal stand its random bits, of which a random tape has the least significant
-- first.
abbrev pub with_random : Row → Row → Row
with_random random row = take 1 row ++ (reverse random ++ drop 1 row)

-- the tape of all of a masked net's input bits
abbrev pub whole_rows : (randoms rows : List Row) → List Row
whole_rows randoms rows = map (λ p. with_random p.0 p.1) (zip randoms rows)

-- A net with the ports of one that is masked, with a report that tells its schedule and its registers.
pub record HasSchedule (original : PlainNet) (report : Report) (net : PlainNet) : Type 0 where
  pub first : WellFormed original
  pub free : AllByRecursion (λ p. starts_with nat_eq p.name (codes "agm_") ≡ false) original.ports
  pub well : WellFormed net
  pub shape : Shape original report net
  pub period : report.period ≡ report.latency + 1
  pub turns : report.streams ≡ streams_of report.balance report.period
  pub registers : (secrets : List Bool) → TellsSecrets original (named_marks original report) secrets → (report.secret_registers ≡ count_by (λ s. s) secrets) × (report.public_registers ≡ count_by not secrets)

-- With any random bits, as many in each row as the report says, the tape drives the net with its stimulus, filled up to the report's
-- streams.
abbrev pub DrivesNet : PlainNet → Report → PlainNet → List Stream → List ℕ → List Row → Type 0
DrivesNet original report net streams seed rows =
    (shared : SharedTape original report streams seed rows) (randoms : List Row) (power : Row) (table : List Row)
    → length randoms ≡ length rows → All (λ r. length r ≡ report.random) randoms → IsTrace net power (whole_rows randoms rows) table
    → Drives original shared.secrets report net (filled (length original.registers) (length (input_bits original)) report.streams shared.steps streams) shared.steps table
