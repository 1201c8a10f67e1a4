use Rattle.share_wiring.proofs.Toggle as toggled
use Rattle.share_wiring.proofs.worked.toggle_is_a_net.Goals as goal

pub returns : goal.returns
returns c = (toggled.is_net, toggled.has_no_loop)
