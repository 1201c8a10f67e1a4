use Rattle.logic_graph.proofs.Values.{tells_bits}
use Rattle.logic_graph.proofs.laws.graphs_tell_bits.Goals as goal

pub returns : goal.returns
returns c = λ net graph inputs registers bit values well none is cycle s. tells_bits net graph well none is inputs registers bit values cycle s
