use Rattle.std.proofs.Common.{◌≡◌, ◌≤◌, take}
use Rattle.shared_tape.specs.Rows.{secret_count}
use Rattle.shared_tape.proofs.states.secret_count.Given as goal

abbrev pub invariant-loop-secret : goal.invariant-loop-secret
invariant-loop-secret l = record {
  count : l.count ≡ secret_count (take l.secret-index l.secrets);
  few : l.count ≤ l.secret-index;
}
