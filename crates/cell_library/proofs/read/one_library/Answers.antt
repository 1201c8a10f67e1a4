use Rattle.cell_library.proofs.WholeText as whole
use Rattle.cell_library.proofs.read.one_library.Goals as goal

pub returns : goal.returns
returns c = whole.one_library
