use Rattle.pipeline_balance.proofs.Toggle as toggles
use Rattle.pipeline_balance.proofs.laws.toggle_is_driven.Goals as goal

pub returns-clause-machine : goal.returns-clause-machine
returns-clause-machine c = toggles.toggle_is

pub returns-clause-pipeline : goal.returns-clause-pipeline
returns-clause-pipeline c = toggles.toggle_runs

pub returns-clause-driven : goal.returns-clause-driven
returns-clause-driven c = toggles.toggle_is_driven
