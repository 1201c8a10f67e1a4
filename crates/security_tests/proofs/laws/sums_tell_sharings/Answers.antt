use Rattle.security_tests.proofs.Inputs.{tells}
use Rattle.security_tests.specs.Nets.{joined_net}
use Rattle.security_tests.proofs.laws.sums_tell_sharings.Goals as goal

pub returns : goal.returns
returns c = tells joined_net.wires joined_net.lines joined_net.registers
