use Rattle.std.proofs.Common.{◌≡◌, take}
use Rattle.side_by_side.specs.Beside.{seen_in}
use Rattle.side_by_side.proofs.values.seen_in.Given as goal

abbrev pub invariant-loop-port : goal.invariant-loop-port
invariant-loop-port l = l.seen ≡ seen_in (take l.port-index l.watched) l.row
