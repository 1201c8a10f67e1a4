use Rattle.mode_examples.proofs.Facts.{bank_takes}
use Rattle.mode_examples.proofs.bank_takes.Goals as goal

pub returns : goal.returns
returns c = bank_takes
