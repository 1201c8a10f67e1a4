use Rattle.pipeline_balance.specs.Registered.{AreClosed}
use Rattle.pipeline_balance.proofs.registers.close_registers.Given as goal

abbrev pub invariant-loop-k : goal.invariant-loop-k
invariant-loop-k g l = AreClosed g.row.S l.initial.builder l.builder l.load l.firsts l.registers l.nexts l.k
