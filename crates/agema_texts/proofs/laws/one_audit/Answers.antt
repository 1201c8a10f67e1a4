use Rattle.agema_texts.proofs.Audits.{audits_once, audited_not_refused, masked_can}
use Rattle.agema_texts.proofs.laws.one_audit.Goals as goal

pub returns-clause-printed : goal.returns-clause-printed
returns-clause-printed c = λ bytes order p q. audits_once c.one_design.ensures bytes order p q

pub returns-clause-passed : goal.returns-clause-passed
returns-clause-passed c = λ bytes order refusal. audited_not_refused c.one_design.ensures bytes order refusal

pub returns-clause-masked : goal.returns-clause-masked
returns-clause-masked c = λ cells bytes order out file line. masked_can cells bytes order out file line
