use Rattle.logic_graph.proofs.Values.{trace_cycle}
use Rattle.logic_graph.proofs.laws.traces_have_cycles.Goals as goal

pub returns : goal.returns
returns c = λ net power tape table t trace lt. trace_cycle net power tape table trace t lt
