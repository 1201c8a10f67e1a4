use Rattle.share_wiring.proofs.MaskedToggle as masked
use Rattle.share_wiring.proofs.Toggle as toggled
use Rattle.share_wiring.proofs.worked.masked_toggle_is_driven.Goals as goal

pub returns : goal.returns
returns c = (masked.runs, toggled.tells, masked.drives)
