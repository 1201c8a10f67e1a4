use Rattle.std.proofs.Common.{◌≡◌, ◌++◌, map, take}
use Rattle.agm_net.specs.Trace.{Row}
use Rattle.side_by_side.specs.Beside.{seen_in}
use Rattle.side_by_side.specs.Pairs.{bit_in, pair_by}
use Rattle.side_by_side.proofs.plain_run.push_step.Given as goal

abbrev pub invariant-loop-k : goal.invariant-loop-k
invariant-loop-k l = (other : Row) → l.seen ≡ seen_in l.watched other → l.pairs ≡ l.initial.pairs ++ map (pair_by l.stream l.step (bit_in l.row) (bit_in other)) (take l.k l.watched)
