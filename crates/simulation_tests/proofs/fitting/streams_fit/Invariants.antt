use Rattle.std.proofs.Common.{All, take}
use Rattle.agm_net.specs.View.{plain_of}
use Rattle.stimulus.specs.Fits.{StreamFits}
use Rattle.simulation_tests.proofs.fitting.streams_fit.Given as goal

abbrev pub invariant-loop-stream : goal.invariant-loop-stream
invariant-loop-stream l = All (StreamFits (plain_of l.net) l.steps) (take l.stream-index l.streams)
