use Rattle.mode_examples.proofs.Facts.{products_in_a_row}
use Rattle.mode_examples.proofs.products_in_a_row.Goals as goal

pub returns : goal.returns
returns c = products_in_a_row
