use Rattle.pipeline_balance.proofs.Beside as beside
use Rattle.pipeline_balance.proofs.names.apart_ports_fit.Goals as goal

pub returns-clause-among : goal.returns-clause-among
returns-clause-among c = beside.fits_among

pub returns-clause-behind : goal.returns-clause-behind
returns-clause-behind c = beside.fits_behind

pub returns-clause-one_by_one : goal.returns-clause-one_by_one
returns-clause-one_by_one c = beside.fit_one_by_one
