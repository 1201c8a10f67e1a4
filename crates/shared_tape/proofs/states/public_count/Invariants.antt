use Rattle.std.proofs.Common.{◌≡◌, ◌≤◌, take, count_by, not}
use Rattle.shared_tape.proofs.states.public_count.Given as goal

abbrev pub invariant-loop-secret : goal.invariant-loop-secret
invariant-loop-secret l = record {
  count : l.count ≡ count_by not (take l.secret-index l.secrets);
  few : l.count ≤ l.secret-index;
}
