use Rattle.agm_net.proofs.Ranks.{ranked, no_loop}
use Rattle.agm_net.proofs.laws.loops_have_no_ranks.Goals as goal

pub returns : goal.returns
returns c = λ net well. (ranked net well, λ ranks. no_loop net ranks.rank ranks.lower)
