use Rattle.mode_examples.proofs.Facts.{cancelled_takes}
use Rattle.mode_examples.proofs.cancelled_takes.Goals as goal

pub returns : goal.returns
returns c = cancelled_takes
