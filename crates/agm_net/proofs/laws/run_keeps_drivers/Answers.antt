use Rattle.agm_net.proofs.Ranks.{ranked}
use Rattle.agm_net.proofs.Runs.{bit_is}
use Rattle.agm_net.proofs.laws.run_keeps_drivers.Goals as goal

pub returns : goal.returns
returns c = λ net power tape t w well none inside. bit_is net well (ranked net well none) power tape t w inside
