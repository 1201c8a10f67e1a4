use Rattle.mode_examples.proofs.Facts.{full_adder_takes}
use Rattle.mode_examples.proofs.full_adder_takes.Goals as goal

pub returns : goal.returns
returns c = full_adder_takes
