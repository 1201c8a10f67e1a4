use Rattle.probe_cones.proofs.ShareNames.{share_found, share_text}
use Rattle.probe_cones.proofs.laws.shares_are_named.Goals as goal

pub returns : goal.returns
returns c = λ name s. (share_text name s, share_found name s)
