use Rattle.std.proofs.Common.{◌≡◌, take, fold, map}
use Rattle.agm_net.specs.Checks.{counted}
use Rattle.agm_net.proofs.checks.count_registers.Given as goal

abbrev pub invariant-loop-register : goal.invariant-loop-register
invariant-loop-register l = l.counts ≡ fold counted l.initial.counts (map (λ r. r.q) (take l.register-index l.registers))
