use Rattle.std.proofs.Common.{◌≡◌, inl, inr, subst, arith}
use Rattle.std.proofs.lemmas.Bool.{cases_lt}
use Rattle.agm_net.specs.Network.{Keeps}
use Rattle.agm_net.specs.View.{plain_of}
use Rattle.hpc2_audit.proofs.verdict.first_broken.Goals as goal

pub loop-wire-preserved : goal.loop-wire-preserved
loop-wire-preserved c = record {
  kept = λ v lt. elim (cases_lt v c.loop-wire.wire) [
    | inl old ↦ c.loop-wire.invariant.kept v old
    | inr ge ↦ (
        let same : c.loop-wire.wire ≡ v = omega arith in
        subst (Keeps (plain_of c.args.net.now) c.args.sheet.now.order) same (c.in_ok-keeps.ensures.told.0 c.if-not-branch.false))
  ];
  known = c.in_ok-keeps.ensures.known;
}
