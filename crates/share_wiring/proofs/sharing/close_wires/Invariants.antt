use Rattle.std.proofs.Common.{◌≡◌, length}
use Rattle.share_wiring.specs.Wiring.{share}
use Rattle.share_wiring.specs.Own.{closed_wires}
use Rattle.share_wiring.proofs.sharing.close_wires.Given as goal

abbrev pub invariant-loop-i : goal.invariant-loop-i
invariant-loop-i g l = (l.wires.items ≡ closed_wires l.i (share l.held.shares) (share l.next.shares) l.initial.wires.items) × (length l.wires.items ≡ length l.initial.wires.items)
