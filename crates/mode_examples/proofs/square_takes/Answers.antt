use Rattle.mode_examples.proofs.Facts.{square_takes}
use Rattle.mode_examples.proofs.square_takes.Goals as goal

pub returns : goal.returns
returns c = square_takes
