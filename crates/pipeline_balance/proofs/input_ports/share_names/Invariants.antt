use Rattle.std.proofs.Common.{◌≡◌}
use Rattle.agm_net.specs.Role.{share_name}
use Rattle.share_wiring.specs.Own.{upto}
use Rattle.pipeline_balance.proofs.input_ports.share_names.Given as goal

abbrev pub invariant-loop-i : goal.invariant-loop-i
invariant-loop-i l = l.names ≡ upto l.i (λ i. share_name i l.name)
