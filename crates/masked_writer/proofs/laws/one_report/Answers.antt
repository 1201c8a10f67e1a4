use Rattle.masked_writer.proofs.OneAnswer.{same_answer}
use Rattle.masked_writer.proofs.OneReport.{same_report}
use Rattle.masked_writer.proofs.laws.one_report.Goals as goal

pub returns-clause-states : goal.returns-clause-states
returns-clause-states c = same_report

pub returns-clause-answers : goal.returns-clause-answers
returns-clause-answers c = same_answer
