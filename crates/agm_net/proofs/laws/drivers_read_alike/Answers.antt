use Rattle.agm_net.proofs.Driving.{reads_is}
use Rattle.agm_net.proofs.laws.drivers_read_alike.Goals as goal

pub returns : goal.returns
returns c = λ net w v well. reads_is net well w v
