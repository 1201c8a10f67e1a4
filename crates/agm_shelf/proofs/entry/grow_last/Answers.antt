use Rattle.agm_shelf.proofs.Entries.{grown-newest}
use Rattle.agm_shelf.proofs.entry.grow_last.Goals as goal

pub returns-clause-ok : goal.returns-clause-ok
returns-clause-ok c = grown-newest _ _ _ _ c.requires c.in_ok-grow.ensures.ok
