use Rattle.probe_lists.specs.Written.{list_parts}
use Rattle.probe_lists.proofs.texts.read_texts.Goals as goal

pub returns-in-None : goal.returns-in-None
returns-in-None c t same = c.in-None.ensures (list_parts t) same
