use Rattle.design_binds.proofs.Binds as binds
use Rattle.design_binds.proofs.laws.design_binds.Goals as goal

pub returns : goal.returns
returns c = binds.design_binds
