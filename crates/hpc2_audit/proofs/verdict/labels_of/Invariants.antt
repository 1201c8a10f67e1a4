use Rattle.std.proofs.Common.{◌≡◌, ◌<◌, ℕ, length, get_or}
use Rattle.agm_net.specs.Label.{HasLabel}
use Rattle.agm_net.specs.View.{plain_of}
use Rattle.agm_net.specs.declared.label.Label.TheVariants.{Clock}
use Rattle.hpc2_audit.proofs.verdict.labels_of.Given as goal

abbrev pub invariant-loop-wire : goal.invariant-loop-wire
invariant-loop-wire l = record {
  as_many : length l.labels ≡ l.wire;
  told : (w : ℕ) → w < l.wire → HasLabel (plain_of l.net) l.sheet.order w (get_or l.labels w Clock);
}
