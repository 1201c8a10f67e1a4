use Rattle.agm_net.proofs.Traces.{trace_bits}
use Rattle.agm_net.proofs.laws.trace_has_bits.Goals as goal

pub returns : goal.returns
returns c = λ net power tape table well none trace t w lt inside. trace_bits net well none power tape table trace t w lt inside
