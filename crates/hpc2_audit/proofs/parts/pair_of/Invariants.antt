use Rattle.std.proofs.Common.{◌≡◌, ◌+◌}
use Rattle.agm_net.specs.Label.{pairs_before}
use Rattle.hpc2_audit.proofs.parts.pair_of.Given as goal

abbrev pub invariant-loop-i : goal.invariant-loop-i
invariant-loop-i l = l.left + pairs_before (l.order + 1) l.i ≡ l.number
