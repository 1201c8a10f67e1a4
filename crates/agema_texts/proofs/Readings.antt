-- A text states one report at most.
use Rattle.std.proofs.Common.{◌≡◌, ◌⊎◌, ℕ, List, Option, Result, Ok, Err, refl, inl, inr}
use Rattle.serde_json.specs.Data.{Data}
use Rattle.json_values.specs.Json.{json_of}
use Rattle.masked_writer.specs.Stated.{Answers}
use Rattle.masked_writer.specs.declared.fault.ReportCause.{ReportCause}
use Rattle.masked_writer.specs.declared.fault.ReportFault.{ReportFault}
use Rattle.masked_writer.specs.declared.fault.ReportFault.TheVariants.{Bad, Memory}
use Rattle.share_wiring.specs.declared.report.Report.{Report}
use Rattle.agema_answers.specs.declared.refusal.Refusal.{Refusal}
use Rattle.agema_answers.specs.declared.refusal.Refusal.TheVariants.{BadReport}
use Rattle.agema_texts.specs.Reported.{CanReport, IsBadReport}

-- by the law that there is one right answer for a text, but for want of memory
abbrev pub AnswersOnce : Type 0
AnswersOnce = (d : Option Data) (a b : Result Report ReportFault) → Answers d a → Answers d b → ((a ≡ Err Memory) ⊎ (b ≡ Err Memory)) ⊎ (a ≡ b)

two_answers : (r : Report) (cause : ReportCause) (a b : Result Report ReportFault) → a ≡ Ok r → b ≡ Err (Bad cause) → ((a ≡ Err Memory) ⊎ (b ≡ Err Memory)) ⊎ (a ≡ b) → Prim.⊥
two_answers r cause a b first second (inl (inl e)) = cc
two_answers r cause a b first second (inl (inr e)) = cc
two_answers r cause a b first second (inr e) = cc

pub reported_not_refused : AnswersOnce → (text : List ℕ) (refusal : Refusal) → CanReport text → IsBadReport text refusal → Prim.⊥
reported_not_refused once text (BadReport cause) (r, (short, states)) (brief, bad) = two_answers r cause (Ok r) (Err (Bad cause)) refl refl (once (json_of text) (Ok r) (Err (Bad cause)) states bad)
reported_not_refused once text _ can bad = bad
