use Rattle.std.proofs.Common.{◌≡◌, take, map}
use Rattle.stimulus.specs.Answer.{row_of}
use Rattle.stimulus.proofs.stimuli.rows_of.Given as goal

abbrev pub invariant-loop-step : goal.invariant-loop-step
invariant-loop-step l = l.rows ≡ map (row_of l.wanted.inputs) (take l.step-index l.steps)
