use Rattle.agm_net.proofs.OneLabel.{one_label}
use Rattle.agm_net.proofs.label.one_label.Goals as goal

pub returns : goal.returns
returns c = one_label
