use Rattle.std.proofs.Common.{◌≡◌, ◌++◌, drop}
use Rattle.share_wiring.specs.Schedule.{chosen}
use Rattle.shared_tape.proofs.states.chosen.Given as goal

abbrev pub invariant-loop-k : goal.invariant-loop-k
invariant-loop-k l = l.those ++ chosen l.kind (drop l.k l.secrets) (drop l.k l.values) ≡ chosen l.kind l.secrets l.values
