use Rattle.std.proofs.Common.{ℕ, ◌<◌, [], IsTrue, get_or}
use Rattle.agm_net.specs.Checks.{is_other_or_counted}
use Rattle.agm_net.proofs.plain.are_others_or_counted.Given as goal

abbrev pub invariant-loop-wire : goal.invariant-loop-wire
invariant-loop-wire l = (w : ℕ) → w < l.wire → IsTrue (is_other_or_counted l.names (get_or l.wires w []) (get_or l.counts w 0))
