use Rattle.std.proofs.Common.{refl}
use Rattle.security_tests.proofs.laws.cones_are_seen.Goals as goal

pub returns : goal.returns
returns c = (refl, refl)
