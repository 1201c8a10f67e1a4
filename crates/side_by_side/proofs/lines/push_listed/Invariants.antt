use Rattle.std.proofs.Common.{◌≡◌, ◌++◌, take}
use Rattle.side_by_side.specs.Text.{listed}
use Rattle.side_by_side.proofs.lines.push_listed.Given as goal

abbrev pub invariant-loop-row : goal.invariant-loop-row
invariant-loop-row l = l.text ≡ l.initial.text ++ listed (take l.row-index l.rows)
