use Rattle.std.proofs.Common.{◌≡◌, inl, inr, subst, arith}
use Rattle.std.proofs.lemmas.Bool.{cases_lt}
use Rattle.agm_net.specs.View.{plain_of}
use Rattle.hpc2_audit.specs.Gadgets.{HasRow}
use Rattle.hpc2_audit.proofs.gadgets.has_kind.Goals as goal

pub loop-i-preserved : goal.loop-i-preserved
loop-i-preserved c = λ i lt.
    elim (cases_lt i c.loop-i.i) [
      | inl old ↦ c.loop-i.invariant i old
      | inr ge ↦ (
          let same : c.loop-i.i ≡ i = omega arith in
          subst (HasRow (plain_of c.args.net.now) c.args.sheet.now.order c.args.gadget c.args.kind) same (c.in_ok-has_row.ensures.0 c.if-not-branch.false))
    ]
