use Rattle.liberty_statements.proofs.Again.{args_end_again}
use Rattle.liberty_statements.proofs.laws.args_are_read.Goals as goal

pub returns : goal.returns
returns c = args_end_again
