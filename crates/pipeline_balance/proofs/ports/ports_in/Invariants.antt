use Rattle.pipeline_balance.specs.Ports.{AreEntered}
use Rattle.pipeline_balance.proofs.ports.ports_in.Given as goal

abbrev pub invariant-loop-k : goal.invariant-loop-k
invariant-loop-k l = AreEntered l.range l.names l.initial.builder l.builder l.k l.rows
