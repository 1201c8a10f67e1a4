use Rattle.std.proofs.Common.{◌≡◌, take, fold}
use Rattle.agm_net.specs.Checks.{counted}
use Rattle.agm_net.proofs.checks.count_wires.Given as goal

abbrev pub invariant-loop-wire : goal.invariant-loop-wire
invariant-loop-wire l = l.counts ≡ fold counted l.initial.counts (take l.wire-index l.wires)
