use Rattle.std.proofs.Common.{◌≡◌, length, take}
use Rattle.share_wiring.specs.Own.{upto}
use Rattle.share_wiring.specs.Wiring.{share}
use Rattle.pipeline_balance.specs.Ports.{row_of}
use Rattle.pipeline_balance.proofs.ports.sharing_at.Given as goal

abbrev pub invariant-loop-i : goal.invariant-loop-i
invariant-loop-i g l = (take l.i l.shares ≡ upto l.i (λ i. share (row_of l.rows i) l.fn.j)) × (length l.shares ≡ g.row.S)
