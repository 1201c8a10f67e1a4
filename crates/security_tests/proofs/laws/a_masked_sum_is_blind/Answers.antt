use Rattle.security_tests.proofs.Inputs.{is_whole}
use Rattle.security_tests.specs.Nets.{masked_net}
use Rattle.security_tests.proofs.laws.a_masked_sum_is_blind.Goals as goal

pub returns : goal.returns
returns c = c.isolation_blinds.ensures masked_net 1 c.a_masked_sum_is_isolated.ensures (is_whole masked_net.wires masked_net.lines masked_net.registers)
