use Rattle.agema_texts.proofs.Comparings.{compared_not_refused}
use Rattle.agema_texts.proofs.laws.one_comparison.Goals as goal

pub returns : goal.returns
returns c = λ cells bytes order stimulus refusal. compared_not_refused c.one_design.ensures c.texts_are_one.ensures cells bytes order stimulus refusal
