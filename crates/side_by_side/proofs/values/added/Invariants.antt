use Rattle.std.proofs.Common.{◌≡◌, drop}
use Rattle.side_by_side.specs.Pairs.{added}
use Rattle.side_by_side.proofs.values.added.Given as goal

abbrev pub invariant-loop-row : goal.invariant-loop-row
invariant-loop-row l = added l.sum (drop l.row-index l.rest) ≡ added l.first l.rest
