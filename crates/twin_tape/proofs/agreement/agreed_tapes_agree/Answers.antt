use Rattle.twin_tape.proofs.Agreed.{agreed_is}
use Rattle.twin_tape.proofs.Columns.{columns_are}
use Rattle.twin_tape.proofs.agreement.agreed_tapes_agree.Goals as goal

pub returns-clause-columns : goal.returns-clause-columns
returns-clause-columns c = λ net. columns_are net

pub returns-clause-agreed : goal.returns-clause-agreed
returns-clause-agreed c = λ net indices first second long h. agreed_is net indices first second long h
