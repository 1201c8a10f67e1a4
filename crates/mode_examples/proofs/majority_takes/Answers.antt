use Rattle.mode_examples.proofs.Facts.{majority_takes}
use Rattle.mode_examples.proofs.majority_takes.Goals as goal

pub returns : goal.returns
returns c = majority_takes
