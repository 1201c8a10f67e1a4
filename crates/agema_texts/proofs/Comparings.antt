-- What is made of an original, and what is refused of a stimulus.
use Rattle.std.proofs.Common.{◌≡◌, ◌≤◌, ◌+◌, ◌∙◌, ℕ, List, Some, length, ap, sym, refl, subst, subst₂}
use Rattle.agm_net.specs.Plain.{PlainNet}
use Rattle.agm_net.specs.declared.mark.Mark.{Mark}
use Rattle.cell_library.specs.Judged.{PlainCell}
use Rattle.masked_writer.specs.Report.{report_text}
use Rattle.secrecy_spread.specs.Leaks.{NoneLeaks}
use Rattle.share_wiring.specs.ReportOf.{ReportOf, streams_of}
use Rattle.share_wiring.specs.declared.report.Report.{Report}
use Rattle.share_wiring.specs.declared.report.Mode.TheVariants.{Naive}
use Rattle.share_wiring.specs.declared.report.Balance.TheVariants.{Pipe}
use Rattle.stimulus.specs.declared.stimuli.Stream.{Stream}
use Rattle.agema_texts.specs.Comparing.{AreLines, CanCompare, CanRun, Compares, IsComparable, IsCompared, IsMade, IsMadeOf, IsTurns, IsUncompared}
use Rattle.agema_texts.specs.Line.{mask_line}
use Rattle.agema_texts.specs.Masks.{Masks, MasksNet, IsWithin}
use Rattle.agema_texts.specs.Original.{IsOriginal, length_limit}
use Rattle.agema_texts.specs.Sims.{HasStreams, IsBadStimulus}
use Rattle.agema_texts.proofs.AnyOrder.{columns_in_any_order}
use Rattle.agema_texts.proofs.Same.{SpellsOnce, same_original}
use Rattle.agema_texts.proofs.Stimuli.{WritesOnce, one_stimulus}
use Rattle.agema_answers.specs.declared.refusal.Refusal.{Refusal}

-- an original that is made is within the limits
pub made_within : (cells : List PlainCell) (bytes : List ℕ) (order : ℕ) (original made : PlainNet) (report : Report) (out : List ℕ) → IsMade cells bytes order original made report out → IsWithin cells bytes order
made_within cells bytes order original made report out m = (original, m.marks, m.is_original, m.no_leak, m.fits, m.narrow)

-- as many streams are in flight as its report says
pub made_turns : (cells : List PlainCell) (bytes : List ℕ) (order : ℕ) (original made : PlainNet) (report : Report) (out : List ℕ) → (m : IsMade cells bytes order original made report out) → IsTurns original m.marks report.streams
made_turns cells bytes order original made report out m =
    let masks = m.made_of.masks in
    (masks.gadgets, masks.latency, masks.costs, ap (λ (r : Report). r.streams) (sym m.made_of.report_is) ∙ masks.reported.streams_are)

-- the texts that are written of it
pub made_masks : (cells : List PlainCell) (bytes : List ℕ) (order : ℕ) (original made : PlainNet) (report : Report) (out file line : List ℕ) → IsMade cells bytes order original made report out
    → file ≡ report_text report → line ≡ mask_line report → Masks cells bytes order out file line
made_masks cells bytes order original made report out file line m file_is line_is =
    let M : List ℕ → List ℕ → Type 0 = λ f l. MasksNet original m.marks order out f l in
    record {
      original = original;
      marks = m.marks;
      is_original = m.is_original;
      no_leak = m.no_leak;
      fits = m.fits;
      narrow = m.narrow;
      masks = subst₂ M (sym file_is) (sym line_is) m.made_of.masks;
    }

-- a stimulus that drives it
pub made_comparable : (cells : List PlainCell) (bytes : List ℕ) (order : ℕ) (original made : PlainNet) (report : Report) (out stimulus : List ℕ) (streams : List Stream) → IsMade cells bytes order original made report out
    → HasStreams original (Some report.streams) stimulus streams → IsComparable cells bytes order stimulus
made_comparable cells bytes order original made report out stimulus streams m has =
    (made_within cells bytes order original made report out m, original, m.marks, report.streams, streams, m.is_original, made_turns cells bytes order original made report out m, has)

-- and one that does not
pub made_uncompared : (cells : List PlainCell) (bytes : List ℕ) (order : ℕ) (original made : PlainNet) (report : Report) (out stimulus : List ℕ) → IsMade cells bytes order original made report out
    → (refusal : Refusal) → IsBadStimulus original (Some report.streams) stimulus refusal → IsUncompared cells bytes order stimulus refusal
made_uncompared cells bytes order original made report out stimulus m refusal bad =
    (made_within cells bytes order original made report out m, original, m.marks, report.streams, m.is_original, made_turns cells bytes order original made report out m, bad)

-- what is written and printed, where the net that was made has been run
pub made_compares : (cells : List PlainCell) (bytes : List ℕ) (order : ℕ) (original made : PlainNet) (report : Report) (out stimulus seed printed : List ℕ) → IsMade cells bytes order original made report out
    → IsCompared original report made stimulus seed printed → Compares cells bytes order stimulus seed out printed
made_compares cells bytes order original made report out stimulus seed printed m compared =
    let of = m.made_of in
    let masks = of.masks in
    let lines = compared.lines in
    let columns = columns_in_any_order original report made masks.masked compared.streams seed lines.0 of.well of.no_loop of.masked_well masks.same.no_loop of.renumbered lines.1 in
    let C : Report → Type 0 = λ r. IsCompared original r masks.masked stimulus seed printed in
    record {
      file = report_text report;
      line = mask_line report;
      masks = record {
        original = original;
        marks = m.marks;
        is_original = m.is_original;
        no_leak = m.no_leak;
        fits = m.fits;
        narrow = m.narrow;
        masks = masks;
      };
      compared = subst C (sym of.report_is) (record { streams = compared.streams; has_streams = compared.has_streams; lines = (lines.0, columns, lines.2) });
    }

-- a stimulus of an original within the limits is not too long
pub short_stimulus : (cells : List PlainCell) (bytes : List ℕ) (order : ℕ) (stimulus : List ℕ) → CanCompare cells bytes order stimulus → IsWithin cells bytes order → length stimulus ≤ length_limit
short_stimulus cells bytes order stimulus can (net, marks, is, none, fits, narrow) =
    let width = narrow.1 in
    (can.1 net marks (width.1 + 1) is (width.0, width.1, width.3, refl)).1.0

-- what can be compared is not refused
pub compared_not_refused : SpellsOnce → WritesOnce → (cells : List PlainCell) (bytes : List ℕ) (order : ℕ) (stimulus : List ℕ) (refusal : Refusal) → CanCompare cells bytes order stimulus → IsUncompared cells bytes order stimulus refusal → Prim.⊥
compared_not_refused once written cells bytes order stimulus refusal can (within, net, marks, turns, is, flight, bad) =
    let drives = can.1 net marks turns is flight in
    one_stimulus written net (Some turns) stimulus drives.0 refusal drives.1 bad
