use Rattle.agm_net.proofs.ShareIndex.{one_role}
use Rattle.agm_net.proofs.roles.one_role.Goals as goal

pub returns : goal.returns
returns c = one_role
