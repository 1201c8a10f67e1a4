use Rattle.agm_net.proofs.OneLabel.{has_part_label}
use Rattle.agm_net.proofs.OnePart.{one_part}
use Rattle.agm_net.proofs.OneWire.{one_part_wire}
use Rattle.agm_net.proofs.label.one_part.Goals as goal

pub returns-clause-name : goal.returns-clause-name
returns-clause-name c = one_part

pub returns-clause-wire : goal.returns-clause-wire
returns-clause-wire c net order v w p well = one_part_wire net well order v w p

pub returns-clause-label : goal.returns-clause-label
returns-clause-label c = has_part_label
