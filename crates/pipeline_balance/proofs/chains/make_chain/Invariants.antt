use Rattle.pipeline_balance.proofs.Chaining.{Growing}
use Rattle.pipeline_balance.proofs.chains.make_chain.Given as goal

abbrev pub invariant-loop-at : goal.invariant-loop-at
invariant-loop-at g l = Growing g.row.S l.initial.builder l.builder l.value l.level l.at l.stages l.reached
