use Rattle.verilog_tokens.proofs.TokenRow as steps
use Rattle.verilog_tokens.proofs.row.one_list.Goals as goal

pub returns : goal.returns
returns c = steps.one_list
