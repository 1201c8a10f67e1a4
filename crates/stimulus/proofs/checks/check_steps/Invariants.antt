use Rattle.std.proofs.Common.{◌≡◌, drop, map}
use Rattle.std.specs.List.{enumerate_from}
use Rattle.stimulus.specs.Asked.{asked_step, first_fault}
use Rattle.stimulus.proofs.checks.check_steps.Given as goal

abbrev pub invariant-loop-step : goal.invariant-loop-step
invariant-loop-step l = first_fault (map (asked_step l.wanted.inputs l.cause l.stream) (enumerate_from l.step (drop l.step l.steps))) ≡ first_fault (map (asked_step l.wanted.inputs l.cause l.stream) (enumerate_from 0 l.steps))
