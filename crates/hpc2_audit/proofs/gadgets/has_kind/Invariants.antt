use Rattle.std.proofs.Common.{◌<◌, ℕ}
use Rattle.agm_net.specs.View.{plain_of}
use Rattle.hpc2_audit.specs.Gadgets.{HasRow}
use Rattle.hpc2_audit.proofs.gadgets.has_kind.Given as goal

abbrev pub invariant-loop-i : goal.invariant-loop-i
invariant-loop-i l = (i : ℕ) → i < l.i → HasRow (plain_of l.net) l.sheet.order l.gadget l.kind i
