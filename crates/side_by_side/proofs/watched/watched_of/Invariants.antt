use Rattle.std.proofs.Common.{◌≡◌, map, take}
use Rattle.agm_net.specs.View.{plain_of}
use Rattle.side_by_side.specs.Pairs.{watched_of, numbered_outputs}
use Rattle.side_by_side.proofs.watched.watched_of.Given as goal

abbrev pub invariant-loop-number : goal.invariant-loop-number
invariant-loop-number l = l.all ≡ map (watched_of l.masked.report (plain_of l.masked.net)) (numbered_outputs (take l.number l.net.ports))
