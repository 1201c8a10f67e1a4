use Rattle.share_wiring.proofs.MaskedToggle as masked
use Rattle.share_wiring.proofs.worked.masked_toggle_is_a_net.Goals as goal

pub returns : goal.returns
returns c = (masked.is_net, masked.has_shape, masked.has_no_loop)
