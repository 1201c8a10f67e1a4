use Rattle.verilog_tokens.proofs.TokenRow as steps
use Rattle.verilog_tokens.proofs.row.tokens_are_cut.Goals as goal

pub returns : goal.returns
returns c = steps.tokens_cut
