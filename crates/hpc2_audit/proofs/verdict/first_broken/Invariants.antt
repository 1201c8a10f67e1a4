use Rattle.std.proofs.Common.{◌<◌, ℕ}
use Rattle.agm_net.specs.Network.{Keeps}
use Rattle.agm_net.specs.View.{plain_of}
use Rattle.hpc2_audit.specs.Gadgets.{AreWhole}
use Rattle.hpc2_audit.proofs.verdict.first_broken.Given as goal

abbrev pub invariant-loop-wire : goal.invariant-loop-wire
invariant-loop-wire l = record {
  kept : (v : ℕ) → v < l.wire → Keeps (plain_of l.net) l.sheet.order v;
  known : AreWhole (plain_of l.net) l.sheet.order l.whole.keys;
}
