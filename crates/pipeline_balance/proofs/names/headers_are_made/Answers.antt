use Rattle.pipeline_balance.proofs.Standing as standing
use Rattle.pipeline_balance.proofs.names.headers_are_made.Goals as goal

pub returns-clause-all : goal.returns-clause-all
returns-clause-all c = λ original report named fits. standing.headers_made report fits original named

pub returns-clause-entered : goal.returns-clause-entered
returns-clause-entered c = λ original report named fits. standing.entered_made report fits original named
