use Rattle.std.proofs.Common.{◌<◌, ℕ, IsTrue, nat_eq}
use Rattle.std.specs.List.{list_any}
use Rattle.hpc2_audit.proofs.gadgets.first_missing.Given as goal

abbrev pub invariant-loop-gadget : goal.invariant-loop-gadget
invariant-loop-gadget l = (g : ℕ) → g < l.gadget-counter → IsTrue (list_any (nat_eq g) l.gadgets.keys)
