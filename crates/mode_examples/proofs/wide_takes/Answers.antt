use Rattle.mode_examples.proofs.Facts.{wide_takes}
use Rattle.mode_examples.proofs.wide_takes.Goals as goal

pub returns : goal.returns
returns c = wide_takes
