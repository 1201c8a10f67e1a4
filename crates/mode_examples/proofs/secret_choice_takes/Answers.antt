use Rattle.mode_examples.proofs.Facts.{secret_choice_takes}
use Rattle.mode_examples.proofs.secret_choice_takes.Goals as goal

pub returns : goal.returns
returns c = secret_choice_takes
