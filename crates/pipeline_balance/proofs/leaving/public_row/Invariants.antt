use Rattle.std.proofs.Common.{◌≡◌, map, take}
use Rattle.share_wiring.specs.Wiring.{share}
use Rattle.pipeline_balance.specs.Valued.{wires_of}
use Rattle.pipeline_balance.proofs.leaving.public_row.Given as goal

abbrev pub invariant-loop-j : goal.invariant-loop-j
invariant-loop-j g l = l.row ≡ map (λ v. share (wires_of v) 0) (take l.j l.values)
