use Rattle.agm_net.proofs.Traces.{trace_is_run}
use Rattle.agm_net.proofs.laws.one_trace.Goals as goal

pub returns : goal.returns
returns c = λ net power tape table well none trace. trace_is_run net well none power tape table trace
