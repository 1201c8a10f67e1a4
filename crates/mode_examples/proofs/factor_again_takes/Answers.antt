use Rattle.mode_examples.proofs.Facts.{factor_again_takes}
use Rattle.mode_examples.proofs.factor_again_takes.Goals as goal

pub returns : goal.returns
returns c = factor_again_takes
