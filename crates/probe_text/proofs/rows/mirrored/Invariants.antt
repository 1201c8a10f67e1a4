use Rattle.std.proofs.Common.{◌≡◌, map, take, reverse}
use Rattle.probe_text.proofs.rows.mirrored.Given as goal

abbrev pub invariant-loop-row : goal.invariant-loop-row
invariant-loop-row l = l.rows ≡ map reverse (take l.row-index l.tape.rows)
