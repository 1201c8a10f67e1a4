use Rattle.pipeline_balance.proofs.Standing as standing
use Rattle.pipeline_balance.proofs.names.headers_are_apart.Goals as goal

pub returns-clause-all : goal.returns-clause-all
returns-clause-all c = λ original report named fits. standing.headers_apart report fits original named

pub returns-clause-entered : goal.returns-clause-entered
returns-clause-entered c = λ original report named fits. standing.entered_apart report fits original named

pub returns-clause-some : goal.returns-clause-some
returns-clause-some c = λ original report named fits. standing.entered_within report fits original named
