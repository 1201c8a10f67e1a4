use Rattle.share_wiring.proofs.Ruling as ruling
use Rattle.share_wiring.proofs.laws.start_is_network.Goals as goal

pub returns : goal.returns
returns c = ruling.start_rules
