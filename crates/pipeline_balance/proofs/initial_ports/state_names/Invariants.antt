use Rattle.std.proofs.Common.{◌≡◌}
use Rattle.agm_net.specs.Role.{state_name}
use Rattle.share_wiring.specs.Own.{upto}
use Rattle.pipeline_balance.proofs.initial_ports.state_names.Given as goal

abbrev pub invariant-loop-i : goal.invariant-loop-i
invariant-loop-i l = l.names ≡ upto l.i state_name
