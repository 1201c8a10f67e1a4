use Rattle.share_wiring.proofs.Driven as driven
use Rattle.share_wiring.proofs.laws.is_driven.Goals as goal

pub returns : goal.returns
returns c = driven.is_driven
