use Rattle.agm_net.proofs.Driving.{reads_are_wires}
use Rattle.agm_net.proofs.laws.drivers_read_wires.Goals as goal

pub returns : goal.returns
returns c = λ net w v well lt h. reads_are_wires net well w v lt h
