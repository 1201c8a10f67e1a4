use Rattle.share_wiring.proofs.Through as example
use Rattle.share_wiring.proofs.wrong.masked_through_is_same.Goals as goal

pub returns : goal.returns
returns c = (example.is_net, example.masked_is_net, example.is_same, example.is_driven)
