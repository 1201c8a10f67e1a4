use Rattle.std.proofs.Common.{◌≡◌, ◌≤◌, ◌+◌, drop, filter, length}
use Rattle.probe_cones.proofs.widths.count_set.Given as goal

abbrev pub invariant-loop-flag : goal.invariant-loop-flag
invariant-loop-flag l = record {
  few : l.count ≤ l.flag-index;
  counted : l.count + length (filter (λ f. f) (drop l.flag-index l.flags)) ≡ length (filter (λ f. f) l.flags);
}
