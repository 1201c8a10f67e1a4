use Rattle.agm_net.proofs.FirstBad.{one_number}
use Rattle.agm_net.proofs.refusals.one_number_tells.Goals as goal

pub returns : goal.returns
returns c = one_number
