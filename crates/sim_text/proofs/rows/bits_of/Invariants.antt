use Rattle.std.proofs.Common.{◌≡◌, take}
use Rattle.sim_text.proofs.rows.bits_of.Given as goal

abbrev pub invariant-loop-k : goal.invariant-loop-k
invariant-loop-k l = l.bits ≡ take l.k l.row
