use Rattle.security_tests.proofs.Told.{not_blind}
use Rattle.security_tests.proofs.laws.one_equation_is_not_blind.Goals as goal

pub returns : goal.returns
returns c = not_blind
