use Rattle.agema_texts.proofs.Same.{same_clocked, clocked_not_refused, driven_not_refused}
use Rattle.agema_texts.proofs.laws.one_simulation.Goals as goal

pub returns-clause-net : goal.returns-clause-net
returns-clause-net c = λ cells bytes m n. same_clocked c.one_design.ensures cells bytes m n

pub returns-clause-clocked : goal.returns-clause-clocked
returns-clause-clocked c = λ cells bytes net refusal. clocked_not_refused c.one_design.ensures cells bytes net refusal

pub returns-clause-driven : goal.returns-clause-driven
returns-clause-driven c = λ cells bytes stimulus refusal. driven_not_refused c.one_design.ensures c.texts_are_one.ensures cells bytes stimulus refusal
