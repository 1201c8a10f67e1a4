use Rattle.liberty_text.proofs.Row.{cut_tokens, cut_whole}
use Rattle.liberty_text.proofs.cut.cut_is_tokens.Goals as goal

pub returns : goal.returns
returns c = λ bytes ts h. (cut_tokens h, cut_whole h)
