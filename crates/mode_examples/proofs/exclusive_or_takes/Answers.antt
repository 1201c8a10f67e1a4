use Rattle.mode_examples.proofs.Facts.{exclusive_or_takes}
use Rattle.mode_examples.proofs.exclusive_or_takes.Goals as goal

pub returns : goal.returns
returns c = exclusive_or_takes
