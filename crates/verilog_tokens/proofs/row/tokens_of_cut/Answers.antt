use Rattle.verilog_tokens.proofs.TokenRow as steps
use Rattle.verilog_tokens.proofs.row.tokens_of_cut.Goals as goal

pub returns : goal.returns
returns c = steps.cut_tokens
