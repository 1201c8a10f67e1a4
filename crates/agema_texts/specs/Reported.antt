-- What `report` prints for the text of a report, and when it is refused.
use Rattle.std.specs.Prelude.{◌≡◌, ◌≤◌, ℕ, List, length, Ok, Err}
use Rattle.json_values.specs.Json.{json_of}
use Rattle.masked_writer.specs.Stated.{Answers}
use Rattle.masked_writer.specs.declared.fault.ReportFault.TheVariants.{Bad}
use Rattle.share_wiring.specs.declared.report.Report.{Report}
use Rattle.agema_texts.specs.Line.{mask_line}
use Rattle.agema_texts.specs.Original.{length_limit}
use Rattle.agema_answers.specs.declared.refusal.Refusal.{Refusal}
use Rattle.agema_answers.specs.declared.refusal.Refusal.TheVariants.{BadReport}

-- the text states this report
abbrev pub HasReport : (text : List ℕ) → Report → Type 0
HasReport text r = (length text ≤ length_limit) × Answers (json_of text) (Ok r)

-- the printed line is that of the text's report
abbrev pub Reports : (text printed : List ℕ) → Type 0
Reports text printed = (r : Report) × HasReport text r × (printed ≡ mask_line r)

abbrev pub CanReport : (text : List ℕ) → Type 0
CanReport text = (r : Report) × HasReport text r

-- why a text is no report
abbrev pub IsBadReport : (text : List ℕ) → Refusal → Type 0
IsBadReport text (BadReport cause) = (length text ≤ length_limit) × Answers (json_of text) (Err (Bad cause))
IsBadReport text _ = Prim.⊥
