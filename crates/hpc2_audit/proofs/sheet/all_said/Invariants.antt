use Rattle.std.proofs.Common.{◌≡◌, ◌<◌, ℕ, length}
use Rattle.agm_net.specs.View.{plain_of}
use Rattle.hpc2_audit.specs.Standing.{Says, said_at}
use Rattle.hpc2_audit.proofs.sheet.all_said.Given as goal

abbrev pub invariant-loop-wire : goal.invariant-loop-wire
invariant-loop-wire l = record {
  as_many : length l.said ≡ l.wire;
  told : (w : ℕ) → w < l.wire → Says (plain_of l.net) l.order w (said_at l.said w);
}
