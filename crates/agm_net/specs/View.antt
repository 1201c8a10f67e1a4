-- The plain view of a net.
use Rattle.agm_net.specs.Plain.{PlainNet, plain}
use Rattle.agm_net.specs.declared.net.Net.{Net}

abbrev pub plain_of : Net → PlainNet
plain_of net = plain net.ports net.wires net.equations net.registers net.clock
