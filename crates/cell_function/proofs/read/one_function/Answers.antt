use Rattle.cell_function.proofs.Whole as whole
use Rattle.cell_function.proofs.read.one_function.Goals as goal

pub returns : goal.returns
returns c = whole.one_function
