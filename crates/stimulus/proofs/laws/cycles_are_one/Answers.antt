use Rattle.stimulus.proofs.OneText.{same_cycles}
use Rattle.stimulus.proofs.laws.cycles_are_one.Goals as goal

pub returns : goal.returns
returns c = same_cycles
