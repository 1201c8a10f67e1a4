use Rattle.pipeline_balance.proofs.Solving as solving
use Rattle.pipeline_balance.proofs.laws.pipelines_are_right.Goals as goal

pub returns : goal.returns
returns c = solving.outputs_right
