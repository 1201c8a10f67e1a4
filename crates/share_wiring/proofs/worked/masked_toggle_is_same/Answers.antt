use Rattle.share_wiring.proofs.ToggleSame.{is_same}
use Rattle.share_wiring.proofs.worked.masked_toggle_is_same.Goals as goal

pub returns : goal.returns
returns c = is_same
