use Rattle.std.proofs.Common.{refl}
use Rattle.security_tests.proofs.laws.masked_counts.Goals as goal

pub returns : goal.returns
returns c = (refl, refl)
