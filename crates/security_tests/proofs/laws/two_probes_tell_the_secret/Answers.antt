use Rattle.security_tests.proofs.Told.{not_blind_to_two}
use Rattle.security_tests.proofs.laws.two_probes_tell_the_secret.Goals as goal

pub returns : goal.returns
returns c = not_blind_to_two
