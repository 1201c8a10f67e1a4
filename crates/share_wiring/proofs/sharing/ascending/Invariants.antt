use Rattle.std.proofs.Common.{◌≡◌, ◌+◌, length, take}
use Rattle.share_wiring.specs.Own.{upto}
use Rattle.share_wiring.proofs.sharing.ascending.Given as goal

abbrev pub invariant-loop-i : goal.invariant-loop-i
invariant-loop-i g l = (take l.i l.shares ≡ upto l.i (λ i. l.first + i)) × (length l.shares ≡ g.row.S)
