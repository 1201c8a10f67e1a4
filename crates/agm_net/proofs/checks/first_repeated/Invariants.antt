use Rattle.std.proofs.Common.{◌≡◌, ℕ, ◌<◌, IsTrue, take}
use Rattle.agm_net.specs.Checks.{is_new}
use Rattle.agm_net.proofs.checks.first_repeated.Given as goal

abbrev pub invariant-loop-i : goal.invariant-loop-i
invariant-loop-i l = record { added : l.table ≡ take l.i l.names; new_before : (k : ℕ) → k < l.i → IsTrue (is_new l.names k) }
