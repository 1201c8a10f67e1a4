use Rattle.pipeline_balance.proofs.Masked as masked
use Rattle.pipeline_balance.proofs.Widths as widths
use Rattle.pipeline_balance.proofs.laws.pipelined_is_same.Goals as goal

pub returns : goal.returns
returns c = λ original marks graph m report net level depth first well none graph_of of pipe shape.
    masked.is_same original marks graph m report net level depth first graph_of none of pipe (widths.widths_right original report net first well shape) shape
