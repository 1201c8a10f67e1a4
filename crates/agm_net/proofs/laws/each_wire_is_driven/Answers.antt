use Rattle.agm_net.proofs.Driving.{is_driven}
use Rattle.agm_net.proofs.laws.each_wire_is_driven.Goals as goal

pub returns : goal.returns
returns c = λ net w well lt. is_driven net well w lt
