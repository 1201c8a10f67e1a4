use Rattle.std.proofs.Common.{◌≡◌, ◌≤◌, ◌+◌, ◌*◌}
use Rattle.agm_net.specs.Label.{pairs_before}
use Rattle.hpc2_audit.proofs.gadgets.pair_number.Given as goal

abbrev pub invariant-loop-lower : goal.invariant-loop-lower
invariant-loop-lower l = (l.before ≡ pairs_before (l.order + 1) l.lower) × (l.before ≤ l.lower * 16)
