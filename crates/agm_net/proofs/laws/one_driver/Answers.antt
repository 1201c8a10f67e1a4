use Rattle.agm_net.proofs.Driving.{driven_is_wire, is_driver}
use Rattle.agm_net.proofs.laws.one_driver.Goals as goal

pub returns : goal.returns
returns c = λ net d w well h. (driven_is_wire net well d w h, is_driver net well d w h)
