use Rattle.design_text.proofs.modules.end_text.Goals as goal

pub returns : goal.returns
returns c = c.extend.ensures.ok
