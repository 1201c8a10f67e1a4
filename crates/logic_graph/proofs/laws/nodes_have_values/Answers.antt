use Rattle.logic_graph.proofs.Values.{values_of, are_values, values_alike}
use Rattle.logic_graph.proofs.laws.nodes_have_values.Goals as goal

pub returns : goal.returns
returns c = λ graph inputs registers. (
  values_of graph.nodes graph.in_order inputs registers,
  are_values graph.nodes graph.in_order inputs registers,
  λ other h. values_alike graph.nodes graph.in_order inputs registers other (values_of graph.nodes graph.in_order inputs registers) h (are_values graph.nodes graph.in_order inputs registers),
)
