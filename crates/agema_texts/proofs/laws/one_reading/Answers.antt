use Rattle.agema_texts.proofs.Readings.{reported_not_refused}
use Rattle.agema_texts.proofs.laws.one_reading.Goals as goal

pub returns : goal.returns
returns c = λ text refusal. reported_not_refused c.one_report.ensures.answers text refusal
