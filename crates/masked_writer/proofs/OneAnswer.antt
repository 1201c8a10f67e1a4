-- One answer is right.
use Rattle.std.proofs.Common.{◌≡◌, ◌⊎◌, Option, Some, None, Result, Ok, Err, refl, sym, ap, subst, ◌∙◌, inl, inr}
use Rattle.serde_json.specs.Data.{Data}
use Rattle.masked_writer.specs.Stated.{Answers, AnswersValue, States, IsInRange}
use Rattle.masked_writer.specs.declared.fault.ReportCause.TheVariants.{Json, Shape, Version, Range}
use Rattle.masked_writer.specs.declared.fault.ReportFault.{ReportFault}
use Rattle.masked_writer.specs.declared.fault.ReportFault.TheVariants.{Bad, Memory}
use Rattle.masked_writer.proofs.OneReport.{same_report}
use Rattle.share_wiring.specs.declared.report.Report.{Report}

abbrev Same : Result Report ReportFault → Result Report ReportFault → Type 0
Same a b = ((a ≡ Err Memory) ⊎ (b ≡ Err Memory)) ⊎ (a ≡ b)

-- a report in range is no other that is out of it
in_and_out : (d : Data) (r s : Report) → States d r 1 → States d s 1 → IsInRange r → (IsInRange s → Prim.⊥) → Prim.⊥
in_and_out d r s one two is not = not (subst IsInRange (same_report d r s 1 1 one two).0 is)

one_value : (d : Data) (a b : Result Report ReportFault) → AnswersValue d a → AnswersValue d b → Same a b
one_value d (Err Memory) b h k = inl (inl refl)
one_value d a (Err Memory) h k = inl (inr refl)
one_value d (Err (Bad Json)) b h k = absurd h
one_value d a (Err (Bad Json)) h k = absurd k
one_value d (Ok r) (Ok s) h k = inr (ap Ok (same_report d r s 1 1 h.0 k.0).0)
one_value d (Ok r) (Err (Bad Shape)) h k = absurd (k r 1 h.0)
one_value d (Ok r) (Err (Bad Version)) h k = absurd (k.3 (sym (same_report d r k.0 1 k.1 h.0 k.2).1))
one_value d (Ok r) (Err (Bad Range)) h k = absurd (in_and_out d r k.0 h.0 k.1 h.1 k.2)
one_value d (Err (Bad Shape)) (Ok s) h k = absurd (h s 1 k.0)
one_value d (Err (Bad Shape)) (Err (Bad Shape)) h k = inr refl
one_value d (Err (Bad Shape)) (Err (Bad Version)) h k = absurd (h k.0 k.1 k.2)
one_value d (Err (Bad Shape)) (Err (Bad Range)) h k = absurd (h k.0 1 k.1)
one_value d (Err (Bad Version)) (Ok s) h k = absurd (h.3 (sym (same_report d s h.0 1 h.1 k.0 h.2).1))
one_value d (Err (Bad Version)) (Err (Bad Shape)) h k = absurd (k h.0 h.1 h.2)
one_value d (Err (Bad Version)) (Err (Bad Version)) h k = inr refl
one_value d (Err (Bad Version)) (Err (Bad Range)) h k = absurd (h.3 (sym (same_report d k.0 h.0 1 h.1 k.1 h.2).1))
one_value d (Err (Bad Range)) (Ok s) h k = absurd (in_and_out d s h.0 k.0 h.1 k.1 h.2)
one_value d (Err (Bad Range)) (Err (Bad Shape)) h k = absurd (k h.0 1 h.1)
one_value d (Err (Bad Range)) (Err (Bad Version)) h k = absurd (k.3 (sym (same_report d h.0 k.0 1 k.1 h.1 k.2).1))
one_value d (Err (Bad Range)) (Err (Bad Range)) h k = inr refl

pub same_answer : (d : Option Data) (a b : Result Report ReportFault) → Answers d a → Answers d b → Same a b
same_answer None a b (inl memory) k = inl (inl memory)
same_answer None a b (inr json) (inl memory) = inl (inr memory)
same_answer None a b (inr json) (inr too) = inr (json ∙ sym too)
same_answer (Some d) a b h k = one_value d a b h k
