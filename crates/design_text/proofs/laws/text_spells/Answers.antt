use Rattle.design_text.proofs.ModulesAgain.{design_spelled}
use Rattle.design_text.proofs.laws.text_spells.Goals as goal

pub returns : goal.returns
returns c = design_spelled
