use Rattle.std.proofs.Common.{◌≡◌, take, reverse}
use Rattle.probe_text.proofs.rows.mirrored_row.Given as goal

abbrev pub invariant-loop-k : goal.invariant-loop-k
invariant-loop-k l = l.turned ≡ take l.k (reverse l.row)
