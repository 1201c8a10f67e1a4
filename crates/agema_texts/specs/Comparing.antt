-- What `both` writes and prints for a netlist, an order, a stimulus and a seed, and when it is refused.
use Rattle.std.specs.Prelude.{◌≡◌, ◌≤◌, ◌+◌, ℕ, List, Some}
use Rattle.std.specs.List.{AllByRecursion}
use Rattle.agm_net.specs.Loop.{HasNoLoop}
use Rattle.agm_net.specs.Plain.{PlainNet}
use Rattle.agm_net.specs.Renumbered.{Renumbered}
use Rattle.agm_net.specs.WellFormed.{WellFormed}
use Rattle.agm_net.specs.Writable.{IsWritable}
use Rattle.agm_net.specs.declared.mark.Mark.{Mark}
use Rattle.cell_library.specs.Judged.{PlainCell}
use Rattle.masked_writer.specs.Report.{report_text}
use Rattle.secrecy_spread.specs.Leaks.{NoneLeaks}
use Rattle.share_wiring.specs.ReportOf.{streams_of}
use Rattle.share_wiring.specs.declared.report.Report.{Report}
use Rattle.side_by_side.specs.Beside.{AreColumns}
use Rattle.side_by_side.specs.Text.{pairs_text}
use Rattle.side_by_side.specs.declared.pairs.Pair.{Pair}
use Rattle.stimulus.specs.declared.stimuli.Stream.{Stream}
use Rattle.agema_texts.specs.Line.{mask_line}
use Rattle.agema_texts.specs.Masks.{Masks, MasksNet, CanMask, IsWithin, size_of, size_limit}
use Rattle.agema_texts.specs.Original.{IsOriginal}
use Rattle.agema_texts.specs.Sims.{HasStreams, IsBadStimulus}
use Rattle.agema_texts.specs.Width.{NaiveCosts, IsNarrow}
use Rattle.agema_answers.specs.declared.refusal.Refusal.{Refusal}

-- the lines of an original and a masked net side by side, with these streams
abbrev pub AreLines : (original : PlainNet) → Report → (masked : PlainNet) → List Stream → (seed printed : List ℕ) → Type 0
AreLines original report masked streams seed printed =
    (pairs : List Pair) × AreColumns original report masked streams seed pairs × (printed ≡ pairs_text original.ports pairs)

-- The lines of an original and a masked net side by side, with the stimulus of a text, and with shares and random bits that are drawn from
-- a seed.
pub record IsCompared (original : PlainNet) (report : Report) (masked : PlainNet) (stimulus seed printed : List ℕ) : Type 0 where
  pub streams : List Stream
  pub has_streams : HasStreams original (Some report.streams) stimulus streams
  pub lines : AreLines original report masked streams seed printed

-- What is written and printed: OUT is what `mask` writes for the netlist, whose report and line are left out, and what is printed are the
-- lines of the original and of the net that OUT gives.
pub record Compares (cells : List PlainCell) (bytes : List ℕ) (order : ℕ) (stimulus seed out printed : List ℕ) : Type 0 where
  pub file : List ℕ
  pub line : List ℕ
  pub masks : Masks cells bytes order out file line
  pub compared : IsCompared masks.original masks.masks.report masks.masks.masked stimulus seed printed

-- so many streams are in flight in the masked net
abbrev pub IsTurns : PlainNet → List Mark → ℕ → Type 0
IsTurns net marks turns = (gadgets : ℕ) × (latency : ℕ) × NaiveCosts net marks gadgets latency × (turns ≡ latency + 1)

-- the bytes give an original within the limits, and the text has a stimulus for it with as many streams at the most as are in flight
abbrev pub IsComparable : List PlainCell → (bytes : List ℕ) → (order : ℕ) → (stimulus : List ℕ) → Type 0
IsComparable cells bytes order stimulus =
    IsWithin cells bytes order
    × (net : PlainNet) × (marks : List Mark) × (turns : ℕ) × (streams : List Stream) × IsOriginal cells bytes net marks × IsTurns net marks turns
    × HasStreams net (Some turns) stimulus streams

-- the same, on whatever graph of the net its costs are read
abbrev pub CanCompare : List PlainCell → (bytes : List ℕ) → (order : ℕ) → (stimulus : List ℕ) → Type 0
CanCompare cells bytes order stimulus =
    CanMask cells bytes order
    × ((net : PlainNet) (marks : List Mark) (turns : ℕ) → IsOriginal cells bytes net marks → IsTurns net marks turns
    → (streams : List Stream) × HasStreams net (Some turns) stimulus streams)

-- why a text is no stimulus of the original that bytes give
abbrev pub IsUncompared : List PlainCell → (bytes : List ℕ) → (order : ℕ) → (stimulus : List ℕ) → Refusal → Type 0
IsUncompared cells bytes order stimulus refusal =
    IsWithin cells bytes order
    × (net : PlainNet) × (marks : List Mark) × (turns : ℕ) × IsOriginal cells bytes net marks × IsTurns net marks turns
    × IsBadStimulus net (Some turns) stimulus refusal

-- ---- how they are made

-- a masked net as it was made of an original, and the text that gives it with its wires in some order
pub record IsMadeOf (original : PlainNet) (marks : List Mark) (order : ℕ) (made : PlainNet) (report : Report) (out : List ℕ) : Type 0 where
  pub masks : MasksNet original marks order out (report_text report) (mask_line report)
  pub report_is : masks.report ≡ report
  pub renumbered : Renumbered made masks.masked
  pub well : WellFormed made
  pub masked_well : WellFormed masks.masked
  pub no_loop : HasNoLoop made
  pub written : AllByRecursion IsWritable report.ports

-- an original and a masked net that can be run side by side
pub record CanRun (original made : PlainNet) (report : Report) : Type 0 where
  pub no_loop : HasNoLoop original
  pub made_no_loop : HasNoLoop made
  pub period : report.period ≡ report.latency + 1
  pub turns : report.streams ≡ streams_of report.balance report.period

-- the same of the original that bytes give
pub record IsMade (cells : List PlainCell) (bytes : List ℕ) (order : ℕ) (original made : PlainNet) (report : Report) (out : List ℕ) : Type 0 where
  pub marks : List Mark
  pub is_original : IsOriginal cells bytes original marks
  pub no_leak : NoneLeaks original marks
  pub fits : size_of original order ≤ size_limit
  pub narrow : IsNarrow original marks order
  pub made_of : IsMadeOf original marks order made report out
  pub runs : CanRun original made report
