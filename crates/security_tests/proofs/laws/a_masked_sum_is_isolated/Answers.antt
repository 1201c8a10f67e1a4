use Rattle.security_tests.proofs.Masked.{has_twins}
use Rattle.security_tests.specs.Nets.{masked_net}
use Rattle.security_tests.proofs.laws.a_masked_sum_is_isolated.Goals as goal

pub returns : goal.returns
returns c = c.twins_isolate.ensures masked_net 1 has_twins
