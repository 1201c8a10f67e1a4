use Rattle.std.proofs.Common.{length, ap, ◌∙◌}
use Rattle.std.proofs.lemmas.Result.{IfOk-weaker}
use Rattle.top_module.proofs.Numbering.{others_are}
use Rattle.top_module.proofs.top.candidates.Goals as goal

pub returns : goal.returns
returns c = IfOk-weaker c.others.result _ _ (λ numbers h. h ∙ others_are c.args.modules.now c.in_ok-names.names c.in_ok-names.ensures (λ one. c.if-len-eq1.false (c.len.ensures ∙ (ap length c.in_ok-marked.ensures ∙ one)))) c.others.ensures
