use Rattle.share_wiring.proofs.Toggle as toggled
use Rattle.share_wiring.proofs.worked.toggle_is_reported.Goals as goal

pub returns : goal.returns
returns c = toggled.reported
