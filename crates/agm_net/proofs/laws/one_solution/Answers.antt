use Rattle.agm_net.proofs.InOrder as solving
use Rattle.agm_net.proofs.laws.one_solution.Goals as goal

pub returns : goal.returns
returns c = solving.one_solution
