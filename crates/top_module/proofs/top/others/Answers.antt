use Rattle.std.proofs.Common.{ℕ, Bool, not, cond, List, [], ◌∷◌, ◌++◌, sym, ap, ap₂, ◌∙◌}
use Rattle.std.specs.Option.{is_some}
use Rattle.top_module.proofs.Added.{missed}
use Rattle.top_module.proofs.Numbering.{number_more}
use Rattle.top_module.specs.Marks.{is_among}
use Rattle.top_module.proofs.top.others.Goals as goal

pub loop-number-preserved : goal.loop-number-preserved
loop-number-preserved c =
    let is_other = missed c.args.names.now c.as_slice.result.now c.index-modules-number.result.name c.is_none-is_other.result c.as_slice.ensures (ap is_some (sym c.find.ensures) ∙ c.is_none-is_other.ensures) in
    c.in_ok-push_if.ensures
    ∙ (ap₂ (λ (b : Bool) (ks : List ℕ). cond b (ks ++ c.loop-number.number ∷ []) ks) is_other c.loop-number.invariant
    ∙ sym (number_more (λ m. not (is_among m.name c.args.names.now)) c.args.modules.now c.loop-number.number c.index-modules-number.result c.loop-number-test.true c.index-modules-number.is))
