use Rattle.agema_texts.proofs.Same.{same_original, masked_not_refused}
use Rattle.agema_texts.proofs.laws.one_original.Goals as goal

pub returns-clause-original : goal.returns-clause-original
returns-clause-original c = λ cells bytes m n marks others. same_original c.one_design.ensures cells bytes m n marks others

pub returns-clause-masked : goal.returns-clause-masked
returns-clause-masked c = λ cells bytes order refusal. masked_not_refused c.one_design.ensures cells bytes order refusal
