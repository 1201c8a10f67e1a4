use Rattle.liberty_statements.proofs.Found.{right_args_end}
use Rattle.liberty_statements.proofs.laws.args_stand.Goals as goal

pub returns : goal.returns
returns c = λ ts rest xs h. right_args_end ts (xs, rest) h
