use Rattle.std.proofs.Common.{◌≡◌, take, map}
use Rattle.stimulus.specs.Answer.{stream_of}
use Rattle.stimulus.proofs.stimuli.streams_of.Given as goal

abbrev pub invariant-loop-text : goal.invariant-loop-text
invariant-loop-text l = l.streams ≡ map (stream_of l.wanted.inputs) (take l.text-index l.texts)
