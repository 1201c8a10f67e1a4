use Rattle.liberty_statements.proofs.Found.{right_body}
use Rattle.liberty_statements.proofs.laws.body_stands.Goals as goal

pub returns : goal.returns
returns c = λ d ts rest ss h. right_body d ts (ss, rest) h
