use Rattle.pipeline_balance.specs.Chained.{IsFilled}
use Rattle.pipeline_balance.proofs.nodes.make_nodes.Given as goal

abbrev pub invariant-loop-k : goal.invariant-loop-k
invariant-loop-k g l = IsFilled g.row.S l.graph l.inputs l.registers l.layout l.initial.builder l.builder l.k l.table
