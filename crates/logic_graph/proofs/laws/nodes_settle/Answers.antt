use Rattle.logic_graph.proofs.Values.{settled_row, is_settled, settled_alike}
use Rattle.logic_graph.proofs.laws.nodes_settle.Goals as goal

pub returns : goal.returns
returns c = λ graph inputs registers. (
  settled_row graph.nodes graph.in_order inputs registers,
  is_settled graph.nodes graph.in_order inputs registers,
  λ other h. settled_alike graph.nodes graph.in_order inputs registers other (settled_row graph.nodes graph.in_order inputs registers) h (is_settled graph.nodes graph.in_order inputs registers),
)
