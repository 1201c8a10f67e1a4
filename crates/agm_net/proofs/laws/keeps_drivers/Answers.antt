use Rattle.agm_net.proofs.Traces.{keeps_from_trace, trace_from_keeps}
use Rattle.agm_net.proofs.laws.keeps_drivers.Goals as goal

pub returns : goal.returns
returns c = λ net power tape table well fits. (keeps_from_trace net well power tape table, trace_from_keeps net well power tape table fits)
