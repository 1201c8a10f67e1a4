use Rattle.std.proofs.Common.{ℕ, Bool, cond, List, [], ◌∷◌, ◌++◌, sym, ap₂, ◌∙◌}
use Rattle.top_module.proofs.Numbering.{number_more}
use Rattle.top_module.specs.Top.{has_top}
use Rattle.top_module.proofs.top.marked.Goals as goal

pub loop-number-preserved : goal.loop-number-preserved
loop-number-preserved c =
    c.in_ok-push_if.ensures
    ∙ (ap₂ (λ (b : Bool) (ks : List ℕ). cond b (ks ++ c.loop-number.number ∷ []) ks) c.has_top.ensures c.loop-number.invariant
    ∙ sym (number_more has_top c.args.modules.now c.loop-number.number c.index-modules-number.result c.loop-number-test.true c.index-modules-number.is))
