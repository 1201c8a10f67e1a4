use Rattle.mode_examples.proofs.Facts.{public_choice_takes}
use Rattle.mode_examples.proofs.public_choice_takes.Goals as goal

pub returns : goal.returns
returns c = public_choice_takes
