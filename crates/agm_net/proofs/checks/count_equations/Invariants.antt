use Rattle.std.proofs.Common.{◌≡◌, take, fold, map}
use Rattle.agm_net.specs.Checks.{counted}
use Rattle.agm_net.proofs.checks.count_equations.Given as goal

abbrev pub invariant-loop-equation : goal.invariant-loop-equation
invariant-loop-equation l = l.counts ≡ fold counted l.initial.counts (map (λ e. e.wire) (take l.equation-index l.equations))
