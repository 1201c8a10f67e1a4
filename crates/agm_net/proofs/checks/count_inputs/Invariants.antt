use Rattle.std.proofs.Common.{◌≡◌, take, fold, filter}
use Rattle.std.specs.List.{flat_map}
use Rattle.agm_net.specs.Plain.{is_input}
use Rattle.agm_net.specs.Checks.{counted}
use Rattle.agm_net.proofs.checks.count_inputs.Given as goal

abbrev pub invariant-loop-port : goal.invariant-loop-port
invariant-loop-port l = l.counts ≡ fold counted l.initial.counts (flat_map (λ p. p.bits) (filter is_input (take l.port-index l.ports)))
