use Rattle.std.proofs.Common.{◌≡◌, ◌+◌, ◌++◌, length}
use Rattle.share_wiring.specs.Wiring.{share}
use Rattle.share_wiring.specs.Own.{own_wires, source_of}
use Rattle.share_wiring.proofs.sharing.push_step.Given as goal

abbrev pub invariant-loop-i : goal.invariant-loop-i
invariant-loop-i g l =
    (l.wires.items ≡ l.initial.wires.items ++ own_wires g.row.S (length l.initial.wires.items) (λ i. source_of l.step i (share l.x.shares i) (share l.y.shares i)) l.i)
    × (length l.wires.items ≡ length l.initial.wires.items + l.i)
