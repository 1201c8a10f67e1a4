use Rattle.std.proofs.Common.{◌≡◌, drop, flat_map}
use Rattle.std.specs.List.{enumerate_from}
use Rattle.stimulus.specs.Asked.{asked_in, first_fault}
use Rattle.stimulus.proofs.checks.check_cause.Given as goal

abbrev pub invariant-loop-stream : goal.invariant-loop-stream
invariant-loop-stream l = first_fault (flat_map (asked_in l.wanted.registers l.wanted.inputs l.first l.cause) (enumerate_from l.stream (drop l.stream l.texts))) ≡ first_fault (flat_map (asked_in l.wanted.registers l.wanted.inputs l.first l.cause) (enumerate_from 0 l.texts))
