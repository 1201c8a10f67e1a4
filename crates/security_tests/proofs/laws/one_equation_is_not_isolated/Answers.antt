use Rattle.security_tests.proofs.Facts.{not_isolated}
use Rattle.security_tests.proofs.laws.one_equation_is_not_isolated.Goals as goal

pub returns : goal.returns
returns c = not_isolated
