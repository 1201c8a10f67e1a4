use Rattle.agm_net.proofs.Traces as traces
use Rattle.agm_net.proofs.laws.run_is_trace.Goals as goal

pub returns : goal.returns
returns c = λ net power tape well none fits. traces.run_is_trace net well none power tape fits
