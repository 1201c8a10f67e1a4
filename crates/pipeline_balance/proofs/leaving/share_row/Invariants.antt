use Rattle.std.proofs.Common.{◌≡◌, map, take}
use Rattle.share_wiring.specs.Wiring.{share}
use Rattle.pipeline_balance.proofs.leaving.share_row.Given as goal

abbrev pub invariant-loop-j : goal.invariant-loop-j
invariant-loop-j g l = l.row ≡ map (λ z. share z.shares l.index) (take l.j l.sharings)
