use Rattle.liberty_text.proofs.Row.{tokens_cut}
use Rattle.liberty_text.proofs.cut.whole_is_cut.Goals as goal

pub returns : goal.returns
returns c = tokens_cut
