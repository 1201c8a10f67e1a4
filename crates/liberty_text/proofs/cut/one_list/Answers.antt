use Rattle.std.proofs.Common.{sym, ◌∙◌}
use Rattle.liberty_text.proofs.Row.{cut_tokens}
use Rattle.liberty_text.proofs.cut.one_list.Goals as goal

pub returns : goal.returns
returns c = λ bytes ts us h k. sym (cut_tokens h) ∙ cut_tokens k
