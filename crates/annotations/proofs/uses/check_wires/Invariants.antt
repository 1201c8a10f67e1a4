use Rattle.std.proofs.Common.{◌≡◌, ℕ, ◌-◌, ◌<◌, length, map, Result}
use Rattle.std.specs.List.{range_with_len}
use Rattle.agm_net.specs.Plain.{PlainNet}
use Rattle.annotations.specs.Clocked.{is_read}
use Rattle.annotations.specs.Rules.{clock_read, Passes}
use Rattle.annotations.specs.Spread.{is_set, AreClockWires}
use Rattle.annotations.specs.declared.fault.AnnotationFault.{AnnotationFault}
use Rattle.verilog_reader.specs.Plain.{PlainModule}
use Rattle.annotations.proofs.uses.check_wires.Given as goal

abbrev pub invariant-loop-wire : goal.invariant-loop-wire
invariant-loop-wire l = (top : PlainModule) (net : PlainNet) → AreClockWires net l.marks → ((w : ℕ) → w < length l.marks → is_set l.read w ≡ is_read net w) → (answer : Result (Unit {0}) AnnotationFault)
    → Passes top net (map clock_read (range_with_len l.wire (length l.marks - l.wire))) answer → Passes top net (map clock_read (range_with_len 0 (length l.marks))) answer
