use Rattle.std.proofs.Common.{◌≡◌, ◌+◌, ◌∙◌, Some, None, take, get_or, refl, sym, subst}
use Rattle.hpc2_audit.specs.Gadgets.{IsLowestAbove}
use Rattle.hpc2_audit.specs.Standing.{part_said}
use Rattle.hpc2_audit.specs.declared.spelled.Spelled.TheVariants.{OfUser}
use Rattle.hpc2_audit.proofs.Numbering.{low_more, low_same}
use Rattle.hpc2_audit.proofs.gadgets.lowest_above.Goals as goal
use Rattle.hpc2_audit.proofs.gadgets.lowest_above.Goals.{in-Some, in_default}

pub loop-own-preserved : goal.loop-own-preserved
loop-own-preserved c =
    let said = c.args.said.now in
    let i = c.loop-own.own-index in
    let s = get_or said i OfUser in
    let m = c.args.number in
    elim c.match-part_said.branch [
      | in-Some w ↦ (
          let e : part_said s ≡ Some w.in-Some.part = sym c.part_said.ensures ∙ w.in-Some.is in
          subst (IsLowestAbove (take (i + 1) said) m) (sym (w.lowest-is ∙ w.lower-lowest.ensures)) (low_more said i s c.loop-own-test.true refl w.in-Some.part m c.loop-own.lowest e c.loop-own.invariant))
      | in_default w ↦ (
          let e : part_said s ≡ None = sym c.part_said.ensures ∙ w.in_default.is in
          subst (IsLowestAbove (take (i + 1) said) m) (sym w.lowest-is) (low_same said i s c.loop-own-test.true refl m c.loop-own.lowest e c.loop-own.invariant))
    ]
