use Rattle.std.proofs.Common.{◌≡◌, ◌++◌, ◌+◌, drop}
use Rattle.probe_cones.specs.Observing.{joined_by}
use Rattle.probe_cones.proofs.joining.join.Given as goal

abbrev pub invariant-loop-flag : goal.invariant-loop-flag
invariant-loop-flag l = record {
  counted : l.next_random + l.next_other ≡ l.flag-index;
  joined : l.row ++ joined_by (drop l.flag-index l.flags) (drop l.next_other l.others) (drop l.next_random l.random) ≡ joined_by l.flags l.others l.random;
}
