use Rattle.liberty_statements.proofs.Again.{body_again}
use Rattle.liberty_statements.proofs.laws.body_is_read.Goals as goal

pub returns : goal.returns
returns c = body_again
