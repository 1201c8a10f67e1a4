use Rattle.pipeline_balance.proofs.Registering.{IsHolding}
use Rattle.pipeline_balance.proofs.registers.hold_registers.Given as goal

abbrev pub invariant-loop-k : goal.invariant-loop-k
invariant-loop-k g l = IsHolding g.row.S l.initial.builder l.builder l.likes l.k l.held
