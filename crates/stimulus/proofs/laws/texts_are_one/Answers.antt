use Rattle.stimulus.proofs.OneText.{same_texts}
use Rattle.stimulus.proofs.laws.texts_are_one.Goals as goal

pub returns : goal.returns
returns c = same_texts
