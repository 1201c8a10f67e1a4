use Rattle.std.proofs.Common.{◌<◌, ℕ}
use Rattle.agm_net.specs.Label.{part}
use Rattle.agm_net.specs.Network.{HasPart}
use Rattle.agm_net.specs.View.{plain_of}
use Rattle.hpc2_audit.specs.Parts.{HasIndices}
use Rattle.hpc2_audit.proofs.gadgets.has_row.Given as goal

abbrev pub invariant-loop-j : goal.invariant-loop-j
invariant-loop-j l = (j : ℕ) → j < l.j → HasIndices l.sheet.order l.kind l.i j → HasPart (plain_of l.net) l.sheet.order (part l.gadget l.kind l.i j)
