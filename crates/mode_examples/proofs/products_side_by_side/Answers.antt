use Rattle.mode_examples.proofs.Facts.{products_side_by_side}
use Rattle.mode_examples.proofs.products_side_by_side.Goals as goal

pub returns : goal.returns
returns c = products_side_by_side
