use Rattle.std.proofs.Common.{drop, map, Result}
use Rattle.agm_net.specs.Plain.{PlainNet}
use Rattle.annotations.specs.Rules.{own_clock, Passes}
use Rattle.annotations.specs.Spread.{AreClockWires}
use Rattle.annotations.specs.declared.fault.AnnotationFault.{AnnotationFault}
use Rattle.verilog_reader.specs.Plain.{PlainModule}
use Rattle.annotations.proofs.uses.check_registers.Given as goal

abbrev pub invariant-loop-register : goal.invariant-loop-register
invariant-loop-register l = (top : PlainModule) (net : PlainNet) → AreClockWires net l.marks → (answer : Result (Unit {0}) AnnotationFault)
    → Passes top net (map (λ r. own_clock r.clock) (drop l.register-index l.registers)) answer → Passes top net (map (λ r. own_clock r.clock) l.registers) answer
