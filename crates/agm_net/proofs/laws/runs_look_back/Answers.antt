use Rattle.agm_net.proofs.Traces.{looks_back}
use Rattle.agm_net.proofs.laws.runs_look_back.Goals as goal

pub returns : goal.returns
returns c = λ net power tape other t well none same s w le inside. looks_back net well none power tape other t same s w le inside
