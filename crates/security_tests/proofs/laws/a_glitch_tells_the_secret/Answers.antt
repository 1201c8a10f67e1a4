use Rattle.std.proofs.Common.{refl}
use Rattle.security_tests.proofs.laws.a_glitch_tells_the_secret.Goals as goal

pub returns : goal.returns
returns c = (refl, refl)
