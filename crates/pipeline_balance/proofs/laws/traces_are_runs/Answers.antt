use Rattle.pipeline_balance.proofs.Originals as originals
use Rattle.pipeline_balance.proofs.laws.traces_are_runs.Goals as goal

pub returns : goal.returns
returns c = λ net graph m well none graph_of of power tape table trace. (
  originals.states_in net graph m well none graph_of of power tape table trace,
  originals.values_in net graph m well none graph_of of power tape table trace,
  originals.trace_runs net graph m well none graph_of of power tape table trace,
  originals.trace_outputs net graph m well none graph_of of power tape table trace,
)
