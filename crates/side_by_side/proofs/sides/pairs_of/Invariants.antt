use Rattle.std.proofs.Common.{◌≡◌, List, map, take}
use Rattle.agm_net.specs.Plain.{PlainNet}
use Rattle.agm_net.specs.Trace.{Row}
use Rattle.agm_net.specs.View.{plain_of}
use Rattle.side_by_side.specs.Beside.{ArePairs, seen_in}
use Rattle.side_by_side.specs.Pairs.{watched_of, numbered_outputs}
use Rattle.side_by_side.proofs.sides.pairs_of.Given as goal

abbrev pub invariant-loop-number : goal.invariant-loop-number
invariant-loop-number l = (masked : PlainNet) (table : List Row) → l.watched ≡ map (watched_of l.report masked) (numbered_outputs l.net.ports) → l.seen ≡ map (seen_in l.watched) table
    → ArePairs (plain_of l.net) l.report masked table (take l.number l.stimulus.streams) l.pairs
