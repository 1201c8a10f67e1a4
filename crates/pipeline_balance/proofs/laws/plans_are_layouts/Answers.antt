use Rattle.pipeline_balance.proofs.Laying as laying
use Rattle.pipeline_balance.proofs.laws.plans_are_layouts.Goals as goal

pub returns-clause-layout : goal.returns-clause-layout
returns-clause-layout c = laying.laid_out

pub returns-clause-depth : goal.returns-clause-depth
returns-clause-depth c = laying.reach_depth
