use Rattle.agm_net.proofs.FirstBad.{not_refused}
use Rattle.agm_net.proofs.refusals.nets_are_not_refused.Goals as goal

pub returns : goal.returns
returns c = not_refused
