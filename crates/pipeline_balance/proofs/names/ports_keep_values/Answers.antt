use Rattle.pipeline_balance.proofs.PortValues as values
use Rattle.pipeline_balance.proofs.names.ports_keep_values.Goals as goal

pub returns-clause-none : goal.returns-clause-none
returns-clause-none c = values.named_nowhere

pub returns-clause-made : goal.returns-clause-made
returns-clause-made c = values.has_inserted

pub returns-clause-others : goal.returns-clause-others
returns-clause-others c = values.keeps_inserted

pub returns-clause-behind : goal.returns-clause-behind
returns-clause-behind c = values.keeps_behind
