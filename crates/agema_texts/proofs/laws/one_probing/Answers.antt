use Rattle.agema_texts.proofs.Probes.{probes_once, probed_not_refused}
use Rattle.agema_texts.proofs.laws.one_probing.Goals as goal

pub returns-clause-printed : goal.returns-clause-printed
returns-clause-printed c = λ bytes order text p q. probes_once c.one_design.ensures c.one_label.ensures c.one_list.ensures.read c.probes_fit.ensures bytes order text p q

pub returns-clause-passed : goal.returns-clause-passed
returns-clause-passed c = λ bytes order text refusal. probed_not_refused c.one_design.ensures c.one_list.ensures.not_bad bytes order text refusal
