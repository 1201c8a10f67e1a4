use Rattle.std.proofs.Common.{◌≡◌}
use Rattle.share_wiring.specs.Own.{upto}
use Rattle.pipeline_balance.specs.Ports.{secret_value}
use Rattle.pipeline_balance.proofs.ports.shared_values.Given as goal

abbrev pub invariant-loop-j : goal.invariant-loop-j
invariant-loop-j g l = l.values ≡ upto l.j (secret_value g.row.S l.rows)
